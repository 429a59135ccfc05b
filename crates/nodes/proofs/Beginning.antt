-- The views of each position are in their table: what the marking of the nodes begins with.
use Prim.Native.Nat.{ℕ}
use mathlib.Core.List.{List}
use native.Mathlib.Omega.{arith}
use Rattle.sheet.specs.declared.Layout.{Layout}
use Rattle.model.specs.Views.{views_of}
use Rattle.model.proofs.Theorems.{views_right}
use Rattle.nodes.specs.Asked.{Asked, Ready}
use Rattle.nodes.proofs.Tables as tables

pub begun : {s : List ℕ} {y : Layout} {n : ℕ} {states views starting following counting : List ℕ} → Asked s y n states views starting following counting
    → Ready s y n states views starting following counting
unfolding views_of
begun asked = record {
  asked = asked;
  views_long = omega (arith, tables.few asked.model, tables.views_long asked.model);
  views_are = views_right asked.model;
}
