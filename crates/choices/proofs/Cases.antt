-- Worked cases: sets 5 and 6 are the moves 0, 2 and 1, 2.
use mathlib.Core.Path.{◌≡◌, refl}
use mathlib.Core.List.{[], ◌∷◌}
use lib.Count.{ones}
use Rattle.meaning.specs.Rules.{joints}
use Rattle.choices.specs.Moves.{members, total, decode, rank, encode}
use Rattle.choices.proofs.Joints.{offered}

in_order : joints 2 (offered (5 ∷ 6 ∷ [])) ≡ (0 ∷ 1 ∷ []) ∷ (0 ∷ 2 ∷ []) ∷ (2 ∷ 1 ∷ []) ∷ (2 ∷ 2 ∷ []) ∷ []
unfolding joints members
in_order = refl

third : decode (5 ∷ 6 ∷ []) 2 ≡ 2 ∷ 1 ∷ []
unfolding decode total members
third = refl

back : encode (5 ∷ 6 ∷ []) (2 ∷ 1 ∷ []) 0 ≡ 2
unfolding encode rank members ones
back = refl

most : total (0xffff ∷ 0xffff ∷ 0xffff ∷ 0xffff ∷ []) ≡ 65536
unfolding total members
most = refl
