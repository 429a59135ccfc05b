-- `listing::put_first` meets its contract: four fields, one after another.
use Rattle.std.proofs.Common.{◌≡◌, ap, ◌∙◌, ◌++◌, ◌∷◌, []}
use Rattle.listing.specs.Text.{decimal, space, line_feed}
use Rattle.listing.specs.Listing.{verdict_word}
use Rattle.listing.proofs.Overlay.{adds_two, adds_same}
use Rattle.listing.proofs.Lines.{yes_is, no_is, first_is}
use Rattle.listing.proofs.put_first.Goals.{then-verdict, else-verdict}
use Rattle.listing.proofs.put_first.Goals as goal

pub returns : goal.returns
returns c =
    let word : c.if-verdict.bytes.now ≡ verdict_word c.args.verdict ++ (line_feed ∷ []) =
    elim c.if-verdict.branch [ then-verdict w ↦ ap (λ b. b.now) w.bytes-is ∙ yes_is _ w.if-verdict.true | else-verdict w ↦ ap (λ b. b.now) w.bytes-is ∙ no_is _ w.if-verdict.false ] in
    let moves = adds_same (ap (λ m. decimal m ++ (space ∷ [])) c.from.ensures) c.number-2.ensures in
    adds_same (first_is _ _ _) (adds_two (adds_two (adds_two c.bytes.ensures c.number.ensures) moves) (adds_same word c.bytes-2.ensures))
