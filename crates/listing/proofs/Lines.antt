-- The lines of a listing are what the code writes, field by field.
use Prim.Native.Nat.{ℕ, ◌+◌}
use mathlib.Core.Bool.{Bool, true, false}
use mathlib.Core.Path.{◌≡◌}
use mathlib.Core.List.{[], ◌∷◌, ◌++◌, append_assoc}
use native.Mathlib.Numerals.{add-one}
use lib.ListN.{get_or}
use Rattle.facts.specs.Bits.{bit}
use Rattle.listing.specs.Text.{text, decimal, space, line_feed}
use Rattle.listing.specs.Listing.{Tables, moves_of, shown, state_line, state_lines, verdict_word, first_line, listing, refusal}

-- the line of a state, from what the code read
pub state_is : (t : Tables) (i facts moves mark rounds choice : ℕ)
    → facts ≡ get_or t.states i 0
    → moves ≡ moves_of t.starts i
    → mark ≡ bit (get_or t.marks i 0) t.last
    → rounds ≡ get_or t.rounds i 0
    → choice ≡ get_or t.choices i 0
    → (((((decimal i ++ (space ∷ []))
    ++ (decimal facts ++ (space ∷ [])))
    ++ (decimal moves ++ (space ∷ [])))
    ++ (decimal mark ++ (space ∷ [])))
    ++ (shown t.eventually rounds ++ (space ∷ [])))
    ++ (shown t.eventually choice ++ (line_feed ∷ []))
    ≡ state_line t i
unfolding state_line
state_is t i facts moves mark rounds choice f v m r c = rw (f, v, m, r, c) (simp append_assoc)

-- the word for a verdict, by cases
pub yes_is : (verdict : Bool) → verdict ≡ true → text "yes\n" ≡ verdict_word verdict ++ (line_feed ∷ [])
yes_is verdict e = rw e

pub no_is : (verdict : Bool) → verdict ≡ false → text "no\n" ≡ verdict_word verdict ++ (line_feed ∷ [])
no_is verdict e = rw e

pub first_is : (n moves : ℕ) (verdict : Bool)
    → ((text "ok "
    ++ (decimal n ++ (space ∷ [])))
    ++ (decimal moves ++ (space ∷ [])))
    ++ (verdict_word verdict ++ (line_feed ∷ []))
    ≡ first_line n moves verdict
unfolding first_line
first_is n moves verdict = simp append_assoc

pub refusal_is : (number place : ℕ)
    → (text "no " ++ (decimal number ++ (space ∷ []))) ++ (decimal place ++ (line_feed ∷ [])) ≡ refusal number place
unfolding refusal
refusal_is number place = simp append_assoc

-- the loop over the states: one more, all
pub lines_more : (t : Tables) (i : ℕ) → state_lines t i ++ state_line t i ≡ state_lines t (i + 1)
unfolding state_lines
lines_more t i = rw add-one

pub listing_is : (t : Tables) (n i : ℕ) (verdict : Bool) (moves : ℕ) → moves ≡ get_or t.starts n 0 → i ≡ n
    → first_line n moves verdict ++ state_lines t i ≡ listing t n verdict
unfolding listing
listing_is t n i verdict moves e all = rw (e, all)
