-- How long a listing and a refusal can be.
use Prim.Native.Nat.{ℕ, zero, suc, ◌+◌, ◌*◌, ◌^◌, ◌≤◌, ◌<◌}
use mathlib.Core.Bool.{Bool, true, false, cond}
use native.Mathlib.Nat.{suc-mul}
use native.Mathlib.Omega.{arith}
use lib.Dec.{eqb}
use mir.Val.{Fits}
use mir.Syntax.{w16, w64}
use lib.ListN.{length, length-append, get_or}
use Rattle.facts.specs.Bits.{bit}
use Rattle.tables.specs.Lengths.{state_limit}
use Rattle.listing.specs.Text.{text, decimal}
use Rattle.listing.specs.Listing.{Tables, absent, moves_of, shown, state_line, state_lines, verdict_word, first_line, listing, refusal}
use Rattle.listing.specs.Buffer.{room_for, listing_room, refusal_room}
use Rattle.listing.proofs.Digits.{decimal_few}

shown_few : (k : ℕ) (eventually : Bool) (x : ℕ) → 0 < k → x < 10 ^ k → length (shown eventually x) ≤ k
shown_few k false x pos h = omega arith
shown_few k true x pos h = pick (eqb x absent)
  where
    few : length (decimal x) ≤ k
    few = decimal_few k x pos h

    pick : (b : Bool) → length (cond b (text "-") (decimal x)) ≤ k
    pick true = omega arith
    pick false = few

-- the line of one state
pub state_few : (k : ℕ) (t : Tables) (i : ℕ)
    → 0 < k
    → i ≤ 9999
    → get_or t.states i 0 < 10 ^ 20
    → moves_of t.starts i < 10 ^ k
    → get_or t.rounds i 0 < 10 ^ k
    → get_or t.choices i 0 < 10 ^ k
    → length (state_line t i) ≤ 31 + 3 * k
unfolding state_line
state_few k t i pos few facts moved rounds choices =
    let marked : bit (get_or t.marks i 0) t.last < 10 ^ 1 = omega arith in
    simp length-append
    (omega (
      arith,
      decimal_few 4 i (omega arith) (omega arith),
      decimal_few 20 (get_or t.states i 0) (omega arith) facts,
      decimal_few k (moves_of t.starts i) pos moved,
      decimal_few 1 (bit (get_or t.marks i 0) t.last) (omega arith) marked,
      shown_few k t.eventually (get_or t.rounds i 0) pos rounds,
      shown_few k t.eventually (get_or t.choices i 0) pos choices,
    ))

-- the lines of the first states, one by one
pub lines_few : (t : Tables) (i w : ℕ) → length (state_lines t i) ≤ i * w → length (state_line t i) ≤ w → length (state_lines t (suc i)) ≤ suc i * w
unfolding state_lines
lines_few t i w before more = rw length-append (omega (arith, suc-mul i w))

-- a listing whose lines are few
pub listing_few : (k : ℕ) (t : Tables) (n : ℕ) (verdict : Bool) → 0 < k → n ≤ 9999 → get_or t.starts n 0 < 10 ^ k → length (state_lines t n) ≤ n * (31 + 3 * k)
    → length (listing t n verdict) ≤ room_for k n
unfolding first_line listing
listing_few k t n verdict pos few moved lines =
    simp length-append
    (omega (
      arith,
      decimal_few 4 n (omega arith) (omega arith),
      decimal_few k (get_or t.starts n 0) pos moved,
      word_few verdict,
    ))
  where
    word_few : (b : Bool) → length (verdict_word b) ≤ 3
    word_few true = omega arith
    word_few false = omega arith

-- a listing of at most 1,024 states has at most 47,122 bytes, whatever the tables hold
pub longest : (t : Tables) (n : ℕ) (verdict : Bool)
    → n ≤ state_limit
    → ((i : ℕ) → Fits w64 (get_or t.states i 0))
    → ((i : ℕ) → Fits w16 (get_or t.starts i 0))
    → ((i : ℕ) → Fits w16 (get_or t.rounds i 0))
    → ((i : ℕ) → Fits w16 (get_or t.choices i 0))
    → length (listing t n verdict) ≤ listing_room
unfolding state_lines
longest t n verdict few a b r c =
    omega (arith, listing_few 5 t n verdict (omega arith) (omega arith) (omega (arith, b n)) (lines n (omega arith)))
  where
    lines : (m : ℕ) → m ≤ n → length (state_lines t m) ≤ m * (31 + 3 * 5)
    lines zero h = omega arith
    lines (suc m) h =
        lines_few t m _ (lines m (omega arith))
        (state_few 5 t m (omega arith) (omega arith) (omega (arith, a m)) (omega (arith, b (m + 1))) (omega (arith, r m)) (omega (arith, c m)))

-- a refusal has at most 45 bytes
pub refusal_few : (number place : ℕ) → number < 10 ^ 20 → place < 10 ^ 20 → length (refusal number place) ≤ refusal_room
unfolding refusal
refusal_few number place a b =
    simp length-append (omega (arith, decimal_few 20 number (omega arith) a, decimal_few 20 place (omega arith) b))
