-- What a position of a sheet's game offers, computed: how many joint moves, how many for each role, and where each leads.
use Rattle.std.specs.Prelude.{ℕ, ◌≤◌, ◌<◌, ◌≡◌, cond, List, ltb, length, get_or, take}
use Rattle.sheet.specs.Data.{Sheet, rules_end}
use Rattle.sheet.specs.Fields.{Fits}
use Rattle.sheet.specs.Reading.{sheet_in}
use Rattle.sheet.specs.declared.Layout.{Layout}
use Rattle.views.specs.Sheet.{masks_of}
use Rattle.choices.specs.Moves.{members, total, decode, four}
use Rattle.rules.specs.Rules.{next_facts}
use Rattle.codes.specs.Codes.{joint_of}
use Rattle.codes.specs.Table.{Compiled, Sized}
use Rattle.keys.specs.Keys.{kind_room, keys_in, Findable, given}
use Rattle.keys.specs.declared.Keys.{Keys}
use Rattle.position.specs.Position.{still, look_in, moves_of, offers, making, leads}
use Rattle.offer.specs.declared.Offer.{Offer}
use Rattle.offer.specs.declared.Study.{Study}

-- The most roles that a sheet may have.
abbrev pub role_limit : ℕ
role_limit = 4

-- The rules of the sheet lie within its bytes, and its fields are in their ranges.
pub record Whole (s : List ℕ) (y : Layout) : Type 0 where
  pub within : rules_end s y.top y.rules ≤ length s
  pub fits : Fits (sheet_in s y)

-- The views of each level and the moves of each role are those of the sheet.
pub record Studied (d : Sheet) (masks moves : List ℕ) : Type 0 where
  pub masks_are : masks ≡ masks_of d.rules
  pub moves_are : moves ≡ moves_of d.rules

-- The codes are those of the sheet's rules, in tables of their lengths.
pub record Coded (d : Sheet) (masks code ends : List ℕ) : Type 0 where
  pub compiled : Compiled d.rules masks code ends
  pub sized : Sized code ends

-- What is found once a sheet is the sheet's.
pub record Ready (t : Study) : Type 0 where
  pub whole : Whole t.s.now t.y
  pub studied : Studied (sheet_in t.s.now t.y) t.masks.now t.moves
  pub coded : Coded (sheet_in t.s.now t.y) t.masks.now t.codes.now.code t.codes.now.ends

-- The keys in their table and the gifts serve every joint move of the position: what is looked up is what the NEXT rules give.
pub record Serves (d : Sheet) (o : Offer) (table : List ℕ) (k : Keys) (gifts : List ℕ) : Type 0 where
  pub found : Findable table k
  pub few : k.kinds ≤ kind_room
  pub masks_long : length k.masks ≡ kind_room
  pub room : k.count < length gifts
  pub next : (m : List ℕ) → given (keys_in table k) k.masks gifts (joint_of m) k.kinds ≡ next_facts d.rules (making o.look m)

-- What position x offers.
unfoldable pub offer_of : Sheet → ℕ → Offer
offer_of d x = record { look = look_in d.rules x still; choices = offers d.rules (look_in d.rules x still) (moves_of d.rules) }

-- How many joint moves there are.
unfoldable pub joints_of : Offer → ℕ → ℕ
joints_of o roles = total (take roles o.choices.sets)

-- How many moves a role has; one for a role that takes no part.
unfoldable pub role_of : Offer → ℕ → ℕ → ℕ
role_of o roles role = cond (ltb role roles) (length (members (get_or o.choices.sets role 0))) 1

-- Where joint move j leads.
unfoldable pub target_of : Sheet → Offer → ℕ → ℕ
target_of d o j = leads d.rules o.look o.choices.terminal (four (decode (take d.sizes.roles o.choices.sets) j))
