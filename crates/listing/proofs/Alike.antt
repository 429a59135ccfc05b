-- A listing depends on the entries of its tables alone, so a table's zeros behind its list do not show.
use Prim.Native.Nat.{ℕ, zero, suc, ◌+◌}
use mathlib.Core.Path.{◌≡◌, refl}
use mathlib.Core.Bool.{Bool}
use mathlib.Core.List.{List}
use lib.ListN.{get_or}
use Rattle.tables.specs.Pad.{pad}
use Rattle.tables.proofs.Pad.{get_or_pad}
use Rattle.listing.specs.Listing.{Tables, tables_of, state_line, state_lines, listing}

-- Two sets of tables are read alike.
pub record Alike (t u : Tables) : Type 0 where
  pub states : (i : ℕ) → get_or t.states i 0 ≡ get_or u.states i 0
  pub starts : (i : ℕ) → get_or t.starts i 0 ≡ get_or u.starts i 0
  pub marks : (i : ℕ) → get_or t.marks i 0 ≡ get_or u.marks i 0
  pub rounds : (i : ℕ) → get_or t.rounds i 0 ≡ get_or u.rounds i 0
  pub choices : (i : ℕ) → get_or t.choices i 0 ≡ get_or u.choices i 0
  pub last : t.last ≡ u.last
  pub eventually : t.eventually ≡ u.eventually

module _ (t u : Tables) (a : Alike t u) where
  state_alike : (i : ℕ) → state_line t i ≡ state_line u i
  unfolding state_line
  state_alike i = rw (a.states i, a.starts i, a.starts (i + 1), a.marks i, a.rounds i, a.choices i, a.last, a.eventually)

  lines_alike : (n : ℕ) → state_lines t n ≡ state_lines u n
  unfolding state_lines
  lines_alike zero = refl
  lines_alike (suc n) = rw (lines_alike n, state_alike n)

  pub listing_alike : (n : ℕ) (verdict : Bool) → listing t n verdict ≡ listing u n verdict
  unfolding listing
  listing_alike n verdict = rw (lines_alike n, a.starts n)

-- The listing of padded tables is that of their lists, whatever the tables' lengths.
pub listing_padded : (k m : ℕ) (states starts marks rounds choices : List ℕ) (last : ℕ) (eventually : Bool) (n : ℕ) (verdict : Bool)
    → listing (tables_of (pad k states) (pad m starts) (pad k marks) (pad k rounds) (pad k choices) last eventually) n verdict
    ≡ listing (tables_of states starts marks rounds choices last eventually) n verdict
listing_padded k m states starts marks rounds choices last eventually n verdict =
    listing_alike
    (tables_of (pad k states) (pad m starts) (pad k marks) (pad k rounds) (pad k choices) last eventually)
    (tables_of states starts marks rounds choices last eventually)
    (record {
      states = get_or_pad k states;
      starts = get_or_pad m starts;
      marks = get_or_pad k marks;
      rounds = get_or_pad k rounds;
      choices = get_or_pad k choices;
      last = refl;
      eventually = refl;
    })
    n
    verdict
