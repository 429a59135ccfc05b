-- The laws of one literal and of the loop over the literals of a body.
use mathlib.Core.Path.{◌≡◌, refl, ap, ◌∙◌}
use mathlib.Core.List.{List, [], ◌∷◌}
use Prim.Native.Nat.{ℕ, ◌+◌, ◌≤◌, ◌<◌}
use lib.ListN.{length, get_or, length-set, length-append}
use Rattle.facts.specs.Bits.{insert}
use Rattle.sheet.specs.declared.record.Part.{Part}
use Rattle.sheet.specs.Data.{Rule}
use Rattle.rules.specs.declared.Ask.{Ask}
use Rattle.rules.specs.Rules.{member_of}
use Rattle.codes.specs.Codes as codes
use Rattle.codes.specs.Codes.{bits, set_no, place_of, noted, noted_all, blank, sets_of, code_of, Sound}
use Rattle.codes.specs.Table.{width}

-- ---- how many sets a body has, and how many numbers a code
pub noted_length : (l : Part) (w : List ℕ) → length (noted l w) ≡ length w
unfolding noted
noted_length l w = length-set w (set_no l) (insert (get_or w (set_no l) 0) (place_of l))

noted_all_length : (b : List Part) (w : List ℕ) → length (noted_all b w) ≡ length w
noted_all_length [] w = refl
noted_all_length (l ∷ b) w = noted_all_length b (noted l w) ∙ noted_length l w

pub sets_length : (b : List Part) → length (sets_of b) ≡ 5
unfolding sets_of
sets_length b = noted_all_length b blank

pub code_length : (q : Ask) (r : Rule) → length (code_of q r) ≡ width
unfolding code_of
code_length q r = length-append (sets_of r.body) (member_of q r.head ∷ []) ∙ ap (λ (n : ℕ). n + 1) (sets_length r.body)

-- ---- THE loop over the literals: those that are left are sound, and from the present sets they give what the whole body gives (z)
pub record Noting (z : List ℕ) (b : List Part) (w : List ℕ) : Type 0 where
  pub sound : Sound b
  pub gives : noted_all b w ≡ z

pub noting_start : (b : List Part) → Sound b → Noting (sets_of b) b blank
unfolding sets_of
noting_start b h = record { sound = h; gives = refl }

module _ {z : List ℕ} {l : Part} {b : List Part} {w : List ℕ} (v : Noting z (l ∷ b) w) where
  pub noting_literal : (1 ≤ l.kind) × (l.kind ≤ 5) × (place_of l < bits)
  noting_literal = go v.sound
    where
      go : Sound (l ∷ b) → (1 ≤ l.kind) × (l.kind ≤ 5) × (place_of l < bits)
      go (codes.one low high place move rest) = (low, high, place)
