-- The laws of the code, one a return.
use Prim.Native.Nat.{ℕ, ◌-◌, ◌*◌, ◌≤◌, ◌<◌}
use native.Mathlib.Omega.{arith}
use mathlib.Core.Path.{◌≡◌, ap, ap₂, ◌∙◌}
use mathlib.Core.Bool.{true, false, not}
use mathlib.Core.List.{List}
use lib.Dec.{eqb}
use lib.ListN.{length, get_or, take}
use Rattle.sheet.specs.Limits.{most_rules}
use Rattle.sheet.specs.Data.{Rule, Sheet}
use Rattle.sheet.specs.Fields.{Fits}
use Rattle.rules.specs.declared.Look.{Look}
use Rattle.rules.specs.Rules.{legals_set, is_terminal}
use Rattle.views.specs.Sheet.{reach_of, mask_at, masks_of, views_at}
use Rattle.views.proofs.Lists.{listed_length}
use Rattle.choices.specs.declared.Choices.{Choices}
use Rattle.choices.specs.Moves.{total, decode, four}
use Rattle.codes.specs.Codes.{joint_of, AllSound}
use Rattle.codes.specs.Table.{width, Compiled, Sized, Slots, collected}
use Rattle.codes.proofs.Fits.{fits_sound}
use Rattle.firing.specs.Firing.{no_moves, views_by, Levels}
use Rattle.firing.proofs.Slots.{next_slots, legal_slots, terminal_slots, levels_are}
use Rattle.firing.proofs.Views.{views_by_lem, legals_by, terminal_by}
use Rattle.keys.specs.Keys.{alive, keys_in, Filing, Homes, Gathered, given}
use Rattle.keys.specs.declared.Keys.{Keys}
use Rattle.keys.proofs.Homing.{home_inside, kinds_few, filing_room}
use Rattle.keys.proofs.Giving.{given_next, alive_below}
use Rattle.keys.proofs.Next.{next_live}
use Rattle.position.specs.Position.{still, look_in, moves_of, offers, offering, making, leads}
use Rattle.position.proofs.Laws.{offering_is, leads_stay, leads_on}
use Rattle.offer.specs.declared.Offer.{Offer}
use Rattle.offer.specs.Offer.{Studied, Coded, Serves, offer_of, joints_of, target_of}

-- what literals are read off: facts, views, and no moves
abbrev look_with : ℕ → ℕ → Look
look_with x v = record { facts = record { bits = x }; views = record { bits = v }; moves = still }

-- there are as many sets as levels
pub masks_length : (d : Sheet) (masks moves : List ℕ) → Studied d masks moves → length masks ≡ 64
masks_length d masks moves t = ap length t.masks_are ∙ listed_length (mask_at (reach_of d.rules)) 64 1

-- What `views_by` and the two walks over LEGAL and TERMINAL give is what the position offers.
module _ (d : Sheet) (fit : Fits d) (masks moves code ends : List ℕ) (t : Studied d masks moves) (c : Coded d masks code ends) where
  -- the literals have their sets
  sound : AllSound d.rules
  sound = fits_sound d fit

  pub levels_there : Levels code ends masks
  levels_there = levels_are c.compiled c.sized

  -- the stretches of LEGAL and of TERMINAL, with their ends as they were read
  module _ {a b e : ℕ} (a_is : a ≡ get_or ends 0 0) (b_is : b ≡ get_or ends 1 0) (e_is : e ≡ get_or ends 2 0) where
    pub legal_there : Slots code a b
    legal_there = rw (a_is, b_is) (legal_slots c.compiled c.sized)

    pub terminal_there : Slots code b e
    terminal_there = rw (b_is, e_is) (terminal_slots c.compiled c.sized)

    pub offer_is : (x : ℕ) {v legals over : ℕ} {o : Choices} → v ≡ views_by code ends x → legals ≡ collected false code x v no_moves a (b - a) 0
        → over ≡ collected false code x v no_moves b (e - b) 0 → o ≡ offering (not (eqb over 0)) legals moves → ◌≡◌ {A = Offer} (record { look = look_with x v; choices = o }) (offer_of d x)
    unfolding offer_of
    offer_is x {v} {legals} {over} {o} p q r h =
        let seen : v ≡ views_at d.rules x (masks_of d.rules) = p ∙ views_by_lem sound c.compiled (masks_length d masks moves t) x ∙ ap (views_at d.rules x) t.masks_are in
        let look_is : look_with x v ≡ look_in d.rules x still = ap (look_with x) seen in
        let over_is : not (eqb over 0) ≡ is_terminal d.rules (look_with x v) =
        ap (λ (y : ℕ). not (eqb y 0)) (r ∙ ap₂ (λ (f t : ℕ). collected false code x v no_moves f (t - f) 0) b_is e_is) ∙ terminal_by sound c.compiled (look_with x v) in
        let legals_are : legals ≡ legals_set d.rules (look_with x v) =
        q ∙ ap₂ (λ (f t : ℕ). collected false code x v no_moves f (t - f) 0) a_is b_is ∙ legals_by sound c.compiled (look_with x v) in
        let choices_are : o ≡ offers d.rules (look_in d.rules x still) (moves_of d.rules) =
        h ∙ offering_is d.rules (look_with x v) moves over_is legals_are ∙ ap₂ (offers d.rules) look_is t.moves_are in
        λ i. record { look = look_is i; choices = choices_are i }

-- What filing the codes of the NEXT rules asks.
pub file_asks : {rs : List Rule} {masks code ends : List ℕ} → Compiled rs masks code ends → Sized code ends → (0 < length ends) × (width * get_or ends 0 0 ≤ length code) × (get_or ends 0 0 ≤ most_rules)
file_asks c s =
    let inside = (next_slots c s).inside in
    (omega (arith, s.ends_long), inside, omega (arith, s.code_long))

-- They are filed up to their end, as it was read.
pub filing_to : {code table homes : List ℕ} {k : Keys} {to end : ℕ} → to ≡ end → Filing code to table homes k → Filing code end table homes k
filing_to e f = rw e at f

-- They are filed.
module _ {d : Sheet} {masks code ends : List ℕ} (c : Coded d masks code ends) {table homes : List ℕ} {k : Keys} (f : Filing code (get_or ends 0 0) table homes k) where
  -- there are no more of them than rules
  next_few : get_or ends 0 0 ≤ most_rules
  next_few = (file_asks c.compiled c.sized).2

  -- what gathering asks
  pub gather_asks : (0 < length ends) × Homes code (get_or ends 0 0) homes k.count
  gather_asks = (
    (file_asks c.compiled c.sized).0,
    record {
      inside = (file_asks c.compiled c.sized).1;
      members = λ i h. (next_slots c.compiled c.sized).members i (omega arith) h;
      homes_long = omega (arith, next_few, f.homes_long);
      homes_low = λ i h. omega (arith, f.homes_are i h, f.count, home_inside code (get_or ends 0 0) i h);
      few = omega (arith, next_few, filing_room f);
    },
  )

  -- what is gathered serves every joint move
  pub gathered_serves : Fits d → (o : Offer) {gifts : List ℕ} → Gathered code homes k.count (alive code o.look.facts.bits o.look.views.bits (get_or ends 0 0)) gifts → Serves d o table k gifts
  gathered_serves fit o g = record {
    found = f.found;
    few = omega (arith, f.kinds_are, kinds_few code (get_or ends 0 0));
    masks_long = f.masks_long;
    room = omega (arith, g.gifts_long, next_few, filing_room f);
    next = λ m. given_next f g (alive_below code o.look.facts.bits o.look.views.bits (get_or ends 0 0)) m ∙ next_live (fits_sound d fit) c.compiled.next (making o.look m);
  }

module _ (o : Offer) where
  pub below_total : (r roles j : ℕ) → r ≡ roles → j < joints_of o roles → j < total (take r o.choices.sets)
  unfolding joints_of
  below_total r roles j e h = rw e h

  -- at the end of a game it stays
  pub target_stays : (d : Sheet) (j : ℕ) → o.choices.terminal ≡ true → o.look.facts.bits ≡ target_of d o j
  unfolding target_of
  target_stays d j h = leads_stay d.rules o.look (four (decode (take d.sizes.roles o.choices.sets) j)) o.choices.terminal h

  -- else it goes by what is looked up
  pub target_goes : (d : Sheet) (r j : ℕ) {t joint : ℕ} {m table : List ℕ} {k : Keys} {gifts : List ℕ} → o.choices.terminal ≡ false → r ≡ d.sizes.roles
      → m ≡ four (decode (take r o.choices.sets) j) → Serves d o table k gifts → joint ≡ joint_of m → t ≡ given (keys_in table k) k.masks gifts joint k.kinds → t ≡ target_of d o j
  unfolding target_of
  target_goes d r j {t} {joint} {m} {table} {k} {gifts} h e f l g q =
      leads_on d.rules o.look m o.choices.terminal t h (q ∙ ap (λ (y : ℕ). given (keys_in table k) k.masks gifts y k.kinds) g ∙ l.next m)
      ∙ ap (leads d.rules o.look o.choices.terminal) (f ∙ ap (λ (n : ℕ). four (decode (take n o.choices.sets) j)) e)
