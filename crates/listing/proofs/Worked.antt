-- Printed texts of document 01, worked out, and the two lengths of a buffer that the code names.
use mathlib.Core.Path.{◌≡◌, refl}
use mathlib.Core.Bool.{true, false}
use mathlib.Core.List.{[], ◌∷◌, ◌++◌}
use Rattle.listing.specs.Buffer.{listing_room, refusal_room}
use Rattle.listing.specs.Text.{text, figures, decimal}
use Rattle.listing.specs.Listing.{tables_of, state_line, state_lines, first_line, listing, refusal}

-- The lamp, coalition 3.
pub lamp : listing (tables_of (0 ∷ 1 ∷ []) (0 ∷ 4 ∷ 5 ∷ []) (2 ∷ 3 ∷ []) (1 ∷ 0 ∷ []) (0 ∷ 65535 ∷ []) 1 true) 2 true
    ≡ text "ok 2 5 yes\n" ++ text "0 0 4 1 1 0\n" ++ text "1 1 1 1 0 -\n"
unfolding figures decimal state_line state_lines first_line listing
lamp = refl

-- The lamp, coalition 1 alone.
pub lamp_alone : listing (tables_of (0 ∷ 1 ∷ []) (0 ∷ 4 ∷ 5 ∷ []) (0 ∷ 3 ∷ []) (65535 ∷ 0 ∷ []) (65535 ∷ 65535 ∷ []) 1 true) 2 false
    ≡ text "ok 2 5 no\n" ++ text "0 0 4 0 - -\n" ++ text "1 1 1 1 0 -\n"
unfolding figures decimal state_line state_lines first_line listing
lamp_alone = refl

-- Where the last node is not EVENTUALLY, both columns are `-` though the tables hold zero.
pub other_last : listing (tables_of (0 ∷ []) (0 ∷ 1 ∷ []) (1 ∷ []) (0 ∷ []) (0 ∷ []) 0 false) 1 true ≡ text "ok 1 1 yes\n" ++ text "0 0 1 1 - -\n"
unfolding figures decimal state_line state_lines first_line listing
other_last = refl

-- A role without a choice in state 0.
pub stuck : refusal 8 0 ≡ text "no 8 0\n"
unfolding figures decimal refusal
stuck = refl

-- All of 64 facts.
pub all_facts : decimal 18446744073709551615 ≡ text "18446744073709551615"
unfolding figures decimal
all_facts = refl

-- `LISTING_ROOM` and `REFUSAL_ROOM` of the code.
pub rooms : (listing_room ≡ 47122) × (refusal_room ≡ 45)
rooms = (refl, refl)
