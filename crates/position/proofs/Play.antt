-- The code's joint moves and successors are those of the game: their number, each by its number, and where each leads.
use Prim.Native.Nat.{ℕ, zero, suc, ◌*◌, ◌/◌, ◌^◌, ◌≤◌, ◌<◌}
use mathlib.Core.Path.{◌≡◌, refl, sym, ap, ap₂, ◌∙◌}
use mathlib.Core.Bool.{Bool, true, false, cond}
use mathlib.Core.Logic.{◌↔◌}
use mathlib.Core.List.{List, [], ◌∷◌}
use native.Mathlib.Nat.{mod-lt}
use native.Mathlib.Omega.{arith}
use borrow.Author.Tests.{eqb-true, eq-eqb}
use lib.ListN.{length, get_or, take}
use lib.Pow.{pow_pos}
use lib.Seq.{length-take-le, get_or-take}
use Rattle.facts.specs.Bits.{bit}
use Rattle.facts.specs.Laws.{ext}
use Rattle.facts.specs.Sets.{same_bit}
use Rattle.sheet.specs.Data.{Rule, Sheet}
use Rattle.sheet.specs.Fields.{Fits}
use Rattle.rules.specs.declared.Look.{Look}
use Rattle.rules.specs.Rules.{does_set, legal_set, legals_set, legals_of, is_terminal}
use Rattle.rules.proofs.Laws.{legal_lt}
use Rattle.rules.proofs.Says.{legal_is, legals_is}
use Rattle.choices.specs.Moves.{members, total, decode, four, encode}
use Rattle.meaning.proofs.Firsts.{Distinct}
use Rattle.choices.proofs.Members.{members_ascending, ascending_distinct}
use Rattle.choices.proofs.Joints.{joints_count, joints_at, none_left, left_none}
use Rattle.choices.proofs.Numbers.{number_is}
use Rattle.meaning.specs.Lists.{◌∈◌}
use Rattle.meaning.specs.Rules.{options, moves, after}
use Rattle.position.specs.Choices.{choices}
use Rattle.position.specs.Meaning.{asked_by}
use Rattle.position.specs.Position.{still, look_in, moves_of, set_of, sets_if, offers, leads, says, rules_of}
use Rattle.position.proofs.Fitting.{sizes_room}
use Rattle.position.proofs.Same.{next_four}

-- one pass for all roles gives each role's legal moves
module _ (rs : List Rule) (k : Look) where
  legals_lt : (role : ℕ) → legals_of rs k role < 2 ^ 16
  unfolding legals_of
  legals_lt role = mod-lt (legals_set rs k / 2 ^ (16 * role)) (pow_pos 16)

  legal_below : (role : ℕ) → legal_set rs k role < 2 ^ 16
  unfolding legal_set
  legal_below role = legal_lt role k rs

  legals_same : (role : ℕ) → role < 4 → legals_of rs k role ≡ legal_set rs k role
  legals_same role few = ext 16 (legals_of rs k role) (legal_set rs k role) (legals_lt role) (legal_below role) (λ move low.
      let a = legals_is rs k role move few low in
      let b = legal_is rs k role move low in
      same_bit (legals_of rs k role) (legal_set rs k role) move
      (λ e. eqb-true (bit (legal_set rs k role) move) 1 (b.1 (a.0 (eq-eqb (bit (legals_of rs k role) move) 1 e))))
      (λ e. eqb-true (bit (legals_of rs k role) move) 1 (a.1 (b.0 (eq-eqb (bit (legal_set rs k role) move) 1 e)))))

module _ (d : Sheet) (s : ℕ) where
  abbrev rs : List Rule
  rs = d.rules

  abbrev k : Look
  k = look_in rs s still

  -- what the code finds of the state
  abbrev pub sets_at : List ℕ
  sets_at = (offers d.rules (look_in d.rules s still) (moves_of d.rules)).sets

  set_same : (role : ℕ) → role < 4 → get_or (moves_of rs) role 0 ≡ does_set role rs 0 → choices (legal_set rs k role) (does_set role rs 0) ≡ set_of rs k (moves_of rs) role
  set_same role few e = ap₂ choices (sym (legals_same rs k role few)) (sym e)

  pub terminal_at : (offers d.rules (look_in d.rules s still) (moves_of d.rules)).terminal ≡ (rules_of d).terminal s
  unfolding offers
  terminal_at = refl

  -- a role's moves are the members of its set
  option_of : (t : Bool) (role : ℕ) → role < 4
      → cond t (0 ∷ []) (members (choices (legal_set rs k role) (does_set role rs 0))) ≡ members (get_or (sets_if t rs k (moves_of rs)) role 0)
  unfolding members
  option_of true zero h = refl
  option_of true (suc zero) h = refl
  option_of true (suc (suc zero)) h = refl
  option_of true (suc (suc (suc zero))) h = refl
  option_of true (suc (suc (suc (suc r)))) h = absurd (omega arith)
  option_of false zero h = ap members (set_same 0 h refl)
  option_of false (suc zero) h = ap members (set_same 1 h refl)
  option_of false (suc (suc zero)) h = ap members (set_same 2 h refl)
  option_of false (suc (suc (suc zero))) h = ap members (set_same 3 h refl)
  option_of false (suc (suc (suc (suc r)))) h = absurd (omega arith)

  pub options_at : (role : ℕ) → role < 4 → options (rules_of d) s role ≡ members (get_or sets_at role 0)
  unfolding options offers
  options_at role h = option_of (is_terminal rs k) role h

  -- no role has a move twice
  pub options_distinct : (role : ℕ) → Distinct (options (rules_of d) s role)
  unfolding options
  options_distinct role = go (is_terminal rs k)
    where
      own : List ℕ
      own = members (choices (legal_set rs k role) (does_set role rs 0))

      go : (t : Bool) → Distinct (cond t (0 ∷ []) own)
      go true = (λ m. m, tt)
      go false = ascending_distinct own (members_ascending (choices (legal_set rs k role) (does_set role rs 0)))

  sets_long : (t : Bool) → length (sets_if t rs k (moves_of rs)) ≡ 4
  sets_long true = refl
  sets_long false = refl

  module _ (fit : Fits d) where
    abbrev roles : ℕ
    roles = d.sizes.roles

    few : roles ≤ 4
    few = (sizes_room d.sizes fit.sizes).roles

    long : length (take roles sets_at) ≡ roles
    unfolding offers
    long =
        let e : length sets_at ≡ 4 = sets_long (is_terminal rs k) in
        length-take-le roles sets_at (omega (arith, few))

    same : (r : ℕ) → r < roles → options (rules_of d) s r ≡ members (get_or (take roles sets_at) r 0)
    same r h = options_at r (omega (arith, few)) ∙ ap members (sym (get_or-take roles sets_at r 0 h))

    -- as many joint moves as the product of the counts
    pub moves_count : length (moves (rules_of d) s) ≡ total (take d.sizes.roles sets_at)
    unfolding moves
    moves_count = joints_count roles (options (rules_of d) s) (take roles sets_at) long same

    -- joint move j of the code is the j-th of the list
    pub moves_at_lem : (j : ℕ) → j < total (take d.sizes.roles sets_at) → get_or (moves (rules_of d) s) j [] ≡ decode (take d.sizes.roles sets_at) j
    unfolding moves
    moves_at_lem j h = joints_at roles (options (rules_of d) s) (take roles sets_at) long same j h

    -- a joint move has the number that the code gives it
    pub number_at : (m : List ℕ) → m ∈ moves (rules_of d) s
        → (encode (take d.sizes.roles sets_at) m 0 < length (moves (rules_of d) s)) × (get_or (moves (rules_of d) s) (encode (take d.sizes.roles sets_at) m 0) [] ≡ m)
    number_at m h = number_is (moves (rules_of d) s) (take roles sets_at) moves_count moves_at_lem m h

    -- none exactly where some role has no choice; a terminal state has one
    pub none_at : (length (moves (rules_of d) s) ≡ 0) ↔ ((r : ℕ) × (r < d.sizes.roles) × (length (options (rules_of d) s r) ≡ 0))
    unfolding moves
    none_at = (none_left roles (options (rules_of d) s), λ p. left_none roles (options (rules_of d) s) p.0 p.1 p.2)

  -- the code's successor is the game's
  pub after_at : (m : List ℕ) → after (rules_of d) s m ≡ leads d.rules (look_in d.rules s still) ((rules_of d).terminal s) (four m)
  unfolding after leads
  after_at m = ap (cond (is_terminal rs k) s) (sym (next_four k m rs))

  -- the code's plain tests are the game's
  pub test_at : (j : ℕ) → says d.rules (look_in d.rules s still) (asked_by d j) ≡ (rules_of d).test j s
  test_at j = refl
