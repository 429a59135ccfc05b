-- A turn of taking a joint move apart: the next role's move stands in the result, and the rest of the number is the rest of the joint move.
use Rattle.std.specs.Prelude.{◌≡◌, ℕ, suc, ◌+◌, ◌-◌, ◌*◌, ◌/◌, ◌%◌, ◌≤◌, ◌<◌, length, get_or, drop, set, replicate}
use Rattle.std.proofs.Math.Path.{sym, ap}
use Rattle.std.proofs.Common.{ap₂, ◌∙◌, mod-lt, add-one, arith, length-set, length-take-le, get_or-take, drop-cons, drop-set-lt, drop-drop}
use mathlib.Core.List.{List, [], ◌∷◌, ◌++◌, append_assoc}
use Rattle.std.proofs.Math.Nat.{mul-div_cancel_left}
use Rattle.std.proofs.Math.ListN.{take}
use Rattle.std.proofs.Math.Seq.{take-suc-set}
use Rattle.choices.specs.Moves.{members, total, decode}
use Rattle.choices.specs.Decode.{Mid, some, weight_pos}

module _ (ss : List ℕ) (j p w rest : ℕ) (out : List ℕ) (h : p < length ss) (four : length ss ≤ 4) (m : Mid ss j p w rest out) where
  -- the role's set, how many choices it has, and what the roles after it make
  abbrev s : ℕ
  s = get_or ss p 0

  abbrev n : ℕ
  n = length (members s)

  abbrev after : ℕ
  after = total (drop (p + 1) ss)

  split : drop p ss ≡ s ∷ drop (p + 1) ss
  split = drop-cons ss p 0 h ∙ ap (λ (k : ℕ). s ∷ drop k ss) (sym (add-one p))

  w_is : w ≡ n * after
  unfolding total
  w_is = m.weight ∙ ap total split

  weight_is : w / n ≡ after
  weight_is = ap (λ (x : ℕ). x / n) w_is ∙ mul-div_cancel_left after (some ss j p w rest out h four m)

  -- the move of role p
  abbrev v : ℕ
  v = get_or (members s) (rest / after) 16

  parts' : decode ss j ≡ take (p + 1) (set out p v) ++ decode (drop (p + 1) ss) (rest % after)
  unfolding decode
  parts' =
      m.parts
      ∙ ap (λ (l : List ℕ). take p out ++ decode l rest) split
      ∙ sym (append_assoc (take p out) (v ∷ []) (decode (drop (p + 1) ss) (rest % after)))
      ∙ ap (λ (l : List ℕ). l ++ decode (drop (p + 1) ss) (rest % after)) (sym (ap (λ (k : ℕ). take k (set out p v)) (add-one p) ∙ take-suc-set out p v (omega (arith, m.long))))

  tail' : drop (p + 1) (set out p v) ≡ replicate (4 - (p + 1)) 0
  tail' =
      let q : 4 - p ≡ suc (4 - (p + 1)) = omega arith in
      drop-set-lt (p + 1) out p v (omega arith)
      ∙ sym (drop-drop 1 p out)
      ∙ ap (drop 1) (m.tail ∙ ap (λ (k : ℕ). replicate k 0) q)

  pub turn : (x : ℕ) → x ≡ get_or (members (get_or ss p 0)) (rest / (w / length (members (get_or ss p 0)))) 16
      → Mid ss j (p + 1) (w / length (members (get_or ss p 0))) (rest % (w / length (members (get_or ss p 0)))) (set out p x)
  turn x e =
      let f : x ≡ v = e ∙ ap (λ (k : ℕ). get_or (members s) (rest / k) 16) weight_is in
      record {
        long = length-set out p x ∙ m.long;
        weight = weight_is;
        below = mod-lt rest (weight_pos ss j p w rest out h four m);
        parts = parts' ∙ ap₂ (λ (y k : ℕ). take (p + 1) (set out p y) ++ decode (drop (p + 1) ss) (rest % k)) (sym f) (sym weight_is);
        tail = ap (λ (y : ℕ). drop (p + 1) (set out p y)) f ∙ tail';
      }

-- the same where the sets are the first `roles` of four, and n is what the count of ones gave
module _ (sets : List ℕ) (roles j p w rest n : ℕ) (out : List ℕ) (long : length sets ≡ 4) (few : roles ≤ 4) (h : p < roles)
    (m : Mid (take roles sets) j p w rest out) (counted : n ≡ length (members (get_or sets p 0))) where
  roles_is : length (take roles sets) ≡ roles
  roles_is = length-take-le roles sets (omega arith)

  in_range : p < length (take roles sets)
  in_range = omega (arith, roles_is)

  few_of : length (take roles sets) ≤ 4
  few_of = omega (arith, roles_is)

  n_is : length (members (get_or (take roles sets) p 0)) ≡ n
  n_is = ap (λ (x : ℕ). length (members x)) (get_or-take roles sets p 0 h) ∙ sym counted

  pub turn_of : (x : ℕ) → x ≡ get_or (members (get_or sets p 0)) (rest / (w / n)) 16 → Mid (take roles sets) j (p + 1) (w / n) (rest % (w / n)) (set out p x)
  turn_of x e =
      rw n_is at (turn (take roles sets) j p w rest out in_range few_of m x
      (e ∙ ap₂ (λ (y k : ℕ). get_or (members y) (rest / (w / k)) 16) (sym (get_or-take roles sets p 0 h)) (sym n_is)))

  pub some_of : 0 < n
  some_of = rw n_is at (some (take roles sets) j p w rest out in_range few_of m)

  pub pos_of : 0 < w / n
  pos_of = rw n_is at (weight_pos (take roles sets) j p w rest out in_range few_of m)
