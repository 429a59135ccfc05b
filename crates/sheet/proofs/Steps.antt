-- Laws of a record whose mark is admitted, read off the bytes from the spot on: one for each way in which the code leaves it. Assumes nothing.
use Rattle.std.proofs.Common.{◌≡◌, ℕ, ◌+◌, ◌*◌, ◌<◌, ◌≤◌, List, length, take, drop, refl, sym, ap, ◌∙◌, arith, true, false, get_or-drop, length-drop, drop-drop, Some, None, Ok, Err}
use lib.Dec.{eqb}
use mathlib.Core.Bool.{false≢true}
use borrow.Author.Tests.{eqb-true, eq-eqb}
use Rattle.std.proofs.lemmas.Slice.{between_to_end}
use Rattle.std.specs.List.{between}
use Rattle.sheet.specs.declared.Spot.{Spot}
use Rattle.sheet.specs.declared.Sizes.{Sizes}
use Rattle.sheet.specs.declared.Mark.{Mark}
use Rattle.sheet.specs.declared.Mark.TheVariants.{SZ, RU, FO, ED}
use Rattle.sheet.specs.declared.Fault.TheVariants.{Cut, After, Field, TooMany, Form}
use Rattle.sheet.specs.declared.Stage.TheVariants.{Rules, Nodes, Done}
use Rattle.sheet.specs.Limits.{most_rules, most_literals, most_nodes}
use Rattle.sheet.specs.Data.{byte, part_at, Rule, rule_at, Node, node_at}
use Rattle.sheet.specs.Fields.{sizes_fit, rule_fits, form_fits, node_fits}
use Rattle.sheet.specs.Reading.{room, known, admitted, first_bytes, first_node, sizes_at, mark_of, rest, record_step, step_at}
use Rattle.sheet.specs.Records.{parts_of}
use Rattle.sheet.proofs.Laws.{sizes_next, sizes_field, node_full, node_field, node_next, rule_full, rule_long, rule_cut, rule_field, rule_form, rule_next, end_next, record_cut, record_rest, step_done, step_after, step_cut, step_record}
use Rattle.sheet.proofs.Records.{body_is}

-- l is what stands at the spot
module _ (s : List ℕ) (p : Spot) (l : List ℕ) (e : l ≡ drop p.at s) where
  room_is : length l ≡ room s p.at
  room_is = ap length e ∙ length-drop p.at s

  byte_is : (i : ℕ) → byte l i ≡ byte s (p.at + i)
  byte_is i = ap (λ (t : List ℕ). byte t i) e ∙ get_or-drop p.at s i 0

  pub cut_here : (m : Mark) → known (Some m) ≡ true → length l < first_bytes (Some m) → admitted p.stage (Some m) ≡ true → Err Cut ≡ record_step s p (Some m)
  cut_here m k h a = record_cut s p (Some m) k a (omega (arith, room_is))

  -- what is left of the order gives the step
  on : (m : Mark) → known (Some m) ≡ true → first_bytes (Some m) ≤ length l → admitted p.stage (Some m) ≡ true
      → rest s p (byte s (p.at + 5)) (Some m) ≡ record_step s p (Some m)
  on m k h a = record_rest s p (Some m) k a (omega (arith, room_is))

  inside : (k : ℕ) → k ≤ length l → 0 < k → p.at + k ≤ length s
  inside k h g = omega (arith, room_is)

  at_start : p.at + 0 ≡ p.at
  at_start = omega arith

  -- ---- the end, or a mark
  pub ended_here : p.stage ≡ Done → eqb (length l) 0 ≡ true → Ok None ≡ step_at s p
  ended_here h f = step_done s p h (sym room_is ∙ eqb-true _ _ f)

  pub more_here : p.stage ≡ Done → eqb (length l) 0 ≡ false → Err After ≡ step_at s p
  more_here h f = step_after s p h (λ z. false≢true (sym f ∙ eq-eqb _ _ (room_is ∙ z)))

  pub half_here : (p.stage ≡ Done → ⊥) → length l < 2 → Err Cut ≡ step_at s p
  half_here h f = step_cut s p h (omega (arith, room_is))

  pub record_here : (p.stage ≡ Done → ⊥) → 2 ≤ length l → record_step s p (mark_of (byte l 0) (byte l 1)) ≡ step_at s p
  record_here h f =
      rw (byte_is 0 ∙ ap (byte s) at_start, byte_is 1) (step_record s p h (omega (arith, room_is)))

  -- ---- SZ
  abbrev sizes_in : Sizes
  sizes_in = record { roles = byte l 2; facts = byte l 3; views = byte l 4; moves = byte l 5 }

  sizes_are : sizes_in ≡ sizes_at s p.at
  sizes_are = rw (byte_is 2, byte_is 3, byte_is 4, byte_is 5) refl

  pub sizes_refused : 6 ≤ length l → sizes_fit sizes_in ≡ false → admitted p.stage (Some SZ) ≡ true → Err Field ≡ record_step s p (Some SZ)
  sizes_refused h f a = sizes_field s p _ (inside 6 h (omega arith)) (ap sizes_fit (sym sizes_are) ∙ f) ∙ on SZ refl h a

  pub sizes_taken : 6 ≤ length l → sizes_fit sizes_in ≡ true → admitted p.stage (Some SZ) ≡ true
      → Ok (Some (record { at = p.at + 6; stage = Rules; sizes = sizes_in; rules = 0; nodes = 0; first = 0 })) ≡ record_step s p (Some SZ)
  sizes_taken h f a =
      ap (λ (z : Sizes). Ok (Some (record { at = p.at + 6; stage = Rules; sizes = z; rules = 0; nodes = 0; first = 0 }))) sizes_are
      ∙ sizes_next s p _ (inside 6 h (omega arith)) (ap sizes_fit (sym sizes_are) ∙ f) ∙ on SZ refl h a

  -- ---- FO
  abbrev node_in : Node
  node_in = record { kind = byte l 2; a = byte l 3; b = byte l 4; coalition = byte l 5 }

  node_is : node_in ≡ node_at s p.at
  node_is = rw (byte_is 2, byte_is 3, byte_is 4, byte_is 5) refl

  pub nodes_full : 6 ≤ length l → most_nodes ≤ p.nodes → admitted p.stage (Some FO) ≡ true → Err TooMany ≡ record_step s p (Some FO)
  nodes_full h f a = node_full s p _ (inside 6 h (omega arith)) f ∙ on FO refl h a

  pub node_refused : 6 ≤ length l → p.nodes < most_nodes → node_fits p.sizes p.nodes node_in ≡ false → admitted p.stage (Some FO) ≡ true
      → Err Field ≡ record_step s p (Some FO)
  node_refused h f g a = node_field s p _ (inside 6 h (omega arith)) f (ap (node_fits p.sizes p.nodes) (sym node_is) ∙ g) ∙ on FO refl h a

  pub node_taken : (first : ℕ) → 6 ≤ length l → p.nodes < most_nodes → node_fits p.sizes p.nodes node_in ≡ true → first ≡ first_node p → admitted p.stage (Some FO) ≡ true
      → Ok (Some (record { at = p.at + 6; stage = Nodes; sizes = p.sizes; rules = p.rules; nodes = p.nodes + 1; first = first })) ≡ record_step s p (Some FO)
  node_taken first h f g k a = node_next s p _ (inside 6 h (omega arith)) first f (ap (node_fits p.sizes p.nodes) (sym node_is) ∙ g) k ∙ on FO refl h a

  -- ---- ED
  pub end_taken : 2 ≤ length l → admitted p.stage (Some ED) ≡ true
      → Ok (Some (record { at = p.at + 2; stage = Done; sizes = p.sizes; rules = p.rules; nodes = p.nodes; first = p.first })) ≡ record_step s p (Some ED)
  end_taken h a = end_next s p _ (inside 2 h (omega arith)) ∙ on ED refl h a

  -- ---- RU, with n literals
  module _ (n : ℕ) (count : n ≡ byte l 5) (six : 6 ≤ length l) (a : admitted p.stage (Some RU) ≡ true) where
    counted : n ≡ byte s (p.at + 5)
    counted = count ∙ byte_is 5

    on_rule : rest s p n (Some RU) ≡ record_step s p (Some RU)
    on_rule = ap (λ (i : ℕ). rest s p i (Some RU)) counted ∙ on RU refl six a

    here : p.at + 6 ≤ length s
    here = inside 6 six (omega arith)

    pub rules_full : most_rules ≤ p.rules → Err TooMany ≡ record_step s p (Some RU)
    rules_full f = rule_full s p n here f ∙ on_rule

    module _ (few : p.rules < most_rules) where
      pub literals_many : most_literals < n → Err TooMany ≡ record_step s p (Some RU)
      literals_many f = rule_long s p n here few f ∙ on_rule

      module _ (short : n ≤ most_literals) where
        pub literals_cut : length (between 6 (length l) l) < 3 * n → Err Cut ≡ record_step s p (Some RU)
        literals_cut f =
            let rest_is = ap length (between_to_end l 6 (length l) (omega arith)) ∙ length-drop 6 l in
            rule_cut s p n here few short (omega (arith, room_is, rest_is)) ∙ on_rule

        -- the literals' bytes b
        module _ (b : List ℕ) (is : b ≡ take (3 * n) (between 6 (length l) l)) (whole : 3 * n ≤ length (between 6 (length l) l)) where
          abbrev rule_in : Rule
          rule_in = record { head = part_at l 2; body = parts_of b }

          long : 6 + 3 * n ≤ room s p.at
          long = let rest_is = ap length (between_to_end l 6 (length l) (omega arith)) ∙ length-drop 6 l in omega (arith, room_is, rest_is)

          bytes_are : b ≡ take (3 * n) (drop (p.at + 6) s)
          bytes_are = is ∙ ap (take (3 * n)) (between_to_end l 6 (length l) (omega arith) ∙ ap (drop 6) e ∙ drop-drop 6 p.at s)

          rule_is : rule_in ≡ rule_at s p.at
          rule_is =
              rw (byte_is 2, byte_is 3, byte_is 4, three, four, bytes_are, body_is s n (p.at + 6) (omega (arith, long)), counted) refl
            where
              three : p.at + 3 ≡ p.at + 2 + 1
              three = omega arith

              four : p.at + 4 ≡ p.at + 2 + 2
              four = omega arith

          pub rule_refused : rule_fits p.sizes rule_in ≡ false → Err Field ≡ record_step s p (Some RU)
          rule_refused f = rule_field s p n here few short long (ap (rule_fits p.sizes) (sym rule_is) ∙ f) ∙ on_rule

          module _ (fits : rule_fits p.sizes rule_in ≡ true) where
            pub form_refused : form_fits rule_in ≡ false → Err Form ≡ record_step s p (Some RU)
            form_refused f = rule_form s p n here few short long (ap (rule_fits p.sizes) (sym rule_is) ∙ fits) (ap form_fits (sym rule_is) ∙ f) ∙ on_rule

            pub rule_taken : form_fits rule_in ≡ true
                → Ok (Some (record { at = p.at + (6 + 3 * n); stage = Rules; sizes = p.sizes; rules = p.rules + 1; nodes = p.nodes; first = p.first })) ≡ record_step s p (Some RU)
            rule_taken f = rule_next s p n here few short long (ap (rule_fits p.sizes) (sym rule_is) ∙ fits) (ap form_fits (sym rule_is) ∙ f) ∙ on_rule
