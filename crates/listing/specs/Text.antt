-- Numbers, words and lines as text: lists of bytes in ASCII.
use Prim.Native.Char.{code}
use Prim.Native.String.{String, [] as []ᵗ, ◌∷◌ as ◌∷ᵗ◌}
use Rattle.std.specs.Prelude.{ℕ, zero, suc, ◌+◌, ◌/◌, ◌%◌, cond, List, [], ◌∷◌, ◌++◌, ltb}

-- A quoted text as its bytes.
abbrev pub text : String → List ℕ
text []ᵗ = []
text (c ∷ᵗ s) = code c ∷ text s

-- The byte that ends a line.
abbrev pub line_feed : ℕ
line_feed = code "\n"

-- The byte between two fields.
abbrev pub space : ℕ
space = code " "

-- The digit d as a byte.
abbrev pub digit : ℕ → ℕ
digit d = code "0" + d

-- The decimal digits of n, at most f of them: those of n / 10, then the last one.
unfoldable pub figures : ℕ → ℕ → List ℕ
figures zero n = []
figures (suc f) n =
    let front : List ℕ = figures f (n / 10) in
    cond (ltb n 10) (digit n ∷ []) (front ++ (digit (n % 10) ∷ []))

-- The number n in decimal; it has no more than n + 1 digits.
unfoldable pub decimal : ℕ → List ℕ
decimal n = figures (suc n) n

-- A line: its fields with one space between them, and a line feed.
abbrev pub line : List (List ℕ) → List ℕ
line [] = line_feed ∷ []
line (w ∷ []) = w ++ (line_feed ∷ [])
line (w ∷ v ∷ ws) = w ++ (space ∷ line (v ∷ ws))
