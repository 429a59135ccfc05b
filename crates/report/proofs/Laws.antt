-- Laws for the code: the last node lies inside an accepted sheet, and it is what is read there.
use Prim.Native.Nat.{ℕ, ◌+◌, ◌-◌, ◌*◌, ◌≤◌}
use mathlib.Core.Path.{◌≡◌, ap, ◌∙◌, subst}
use mathlib.Core.Bool.{Bool}
use mathlib.Core.List.{List}
use lib.ListN.{length}
use Rattle.sheet.specs.declared.Layout.{Layout}
use Rattle.sheet.specs.declared.question.Question.{Question}
use Rattle.sheet.specs.Data.{node_at}
use Rattle.sheet.specs.Question.{question_of}
use Rattle.sheet.specs.Reading.{read_sheet}
use Rattle.sheet.proofs.Exact.{exact, nodes_length}
use Rattle.listing.specs.Listing.{listing, refusal, tables_of}
use Rattle.listing.specs.Buffer.{Prints}
use Rattle.std.specs.Prelude.{Ok}
use Rattle.engine.specs.declared.Solved.{Solved}
use Rattle.engine.specs.Promise.{Answer, Tables, Meets}
use Rattle.report.specs.declared.Last.{Last}
use Rattle.report.specs.Report.{is_eventually, last_at, last_in, listing_of, Reports}

module _ (s : List ℕ) (y : Layout) (read : read_sheet s ≡ Ok y) where
  pub some_node : 1 ≤ y.nodes
  some_node = subst (λ (n : ℕ). 1 ≤ n) (nodes_length s y.nodes y.first) (exact s y read).fits.some_node

  pub whole : y.first + 6 * y.nodes + 2 ≡ length s
  whole = (exact s y read).whole

pub last_is : (s : List ℕ) (y : Layout) (w : ℕ) (q : Question) (b : Bool) → w ≡ y.nodes → q ≡ question_of (node_at s (y.first + 6 * (w - 1))) → b ≡ is_eventually q
    → ◌≡◌ {A = Last} (record { number = w - 1; eventually = b }) (last_at s y)
unfolding last_at
last_is s y w q b e f g =
    ap (λ (x : Bool). record { number = w - 1; eventually = x }) (g ∙ ap is_eventually f)
    ∙ ap (λ (k : ℕ). record { number = k - 1; eventually = is_eventually (question_of (node_at s (y.first + 6 * (k - 1)))) }) e

-- the listing of an accepted sheet, where the last node is what the code read
pub reports_listing : {s : List ℕ} {t u : Tables} {before after : List ℕ} {r : ℕ} {solved : Solved} {answer : Answer} {x : Last}
    → x ≡ last_in s (read_sheet s)
    → answer ≡ Ok solved
    → Meets s t u answer
    → Prints (listing (tables_of u.states u.starts u.marks u.rounds u.choices x.number x.eventually) solved.states solved.verdict) before after r
    → Reports s t u before after r
unfolding listing_of
reports_listing {s} {t} {u} {before} {after} {r} {solved} {answer} e is meets prints = record {
  answer = answer;
  meets = meets;
  prints =
      let P : Last → Type 0 = λ x. Prints (listing (tables_of u.states u.starts u.marks u.rounds u.choices x.number x.eventually) solved.states solved.verdict) before after r in
      rw is (subst P e prints);
}

-- the line of a refusal, by equal numbers
pub refusal_is : {n m k j r : ℕ} {before after : List ℕ} → Prints (refusal n k) before after r → n ≡ m → k ≡ j → Prints (refusal m j) before after r
refusal_is {n} {m} {k} {j} {r} {before} {after} p e f =
    subst (λ (x : ℕ). Prints (refusal m x) before after r) f (subst (λ (x : ℕ). Prints (refusal x k) before after r) e p)
