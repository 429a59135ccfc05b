-- What the values that borrow a sheet's bytes hold: the literals of a body, a rule, the rules that are left.
use Rattle.std.specs.Prelude.{ℕ, zero, suc, ◌*◌, [], List, ◌∷◌, take, drop}
use Rattle.sheet.specs.declared.record.Body.{Body}
use Rattle.sheet.specs.declared.record.Rule.{Rule as LentRule}
use Rattle.sheet.specs.declared.record.Rules.{Rules}
use Rattle.sheet.specs.Data.{Part, part, Rule}

-- Three bytes are a literal; fewer are none.
unfoldable pub parts_of : List ℕ → List Part
parts_of [] = []
parts_of (k ∷ []) = []
parts_of (k ∷ a ∷ []) = []
parts_of (k ∷ a ∷ b ∷ s) = part k a b ∷ parts_of s

-- The literals of a body that are left.
unfoldable pub literals : Body → List Part
literals b = parts_of b.bytes.now

-- A rule as data.
abbrev pub rule_of : LentRule → Rule
rule_of r = record { head = r.head; body = literals r.body }

-- At most n rules: the mark's two bytes, the head, the number of literals, the literals, so many as there are; none where the first six bytes are not there.
unfoldable pub rules_in : ℕ → List ℕ → List Rule
rules_in zero s = []
rules_in (suc n) (x ∷ y ∷ k ∷ a ∷ b ∷ m ∷ s) = record { head = part k a b; body = parts_of (take (3 * m) s) } ∷ rules_in n (drop (3 * m) s)
rules_in (suc n) s = []

-- The rules that are left.
unfoldable pub rules_of : Rules → List Rule
rules_of r = rules_in r.left r.bytes.now
