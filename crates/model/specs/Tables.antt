-- What the lent tables hold while the model is built.
use Rattle.std.specs.Prelude.{ℕ, ◌+◌, ◌*◌, ◌≤◌, ◌≡◌, List, [], map, length, take}
use Rattle.tables.specs.Pad.{pad}
use Rattle.meaning.specs.Lists.{place}
use Rattle.offer.specs.Offer.{role_limit}

-- A table of that size holds the list l, of n entries, and zeros behind it.
pub record Holds (size : ℕ) (table : List ℕ) (n : ℕ) (l : List ℕ) : Type 0 where
  pub is : table ≡ pad size l
  pub count : n ≡ length l
  pub room : n ≤ size

-- A table holds its first n entries, and zeros behind them.
abbrev pub Clean : ℕ → List ℕ → ℕ → Type 0
Clean size table n = Holds size table n (take n table)

-- The numbers of the positions ts in the list l.
abbrev pub numbers : List ℕ → List ℕ → List ℕ
numbers l ts = map (λ t. place t l) ts

-- The five tables of a model, each of its length.
pub record Sized (limit joints : ℕ) (states starts successors counts views : List ℕ) : Type 0 where
  pub states_long : length states ≡ limit
  pub starts_long : length starts ≡ limit + 1
  pub successors_long : length successors ≡ joints
  pub counts_long : length counts ≡ role_limit * limit
  pub views_long : length views ≡ limit

-- Every entry of the five tables is zero.
pub record Zeros (limit joints : ℕ) (states starts successors counts views : List ℕ) : Type 0 where
  pub states_zero : states ≡ pad limit []
  pub starts_zero : starts ≡ pad (limit + 1) []
  pub successors_zero : successors ≡ pad joints []
  pub counts_zero : counts ≡ pad (role_limit * limit) []
  pub views_zero : views ≡ pad limit []
