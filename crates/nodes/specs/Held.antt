-- What the question is asked of, as the code holds it.
use Rattle.std.specs.Prelude.{ℕ}
use Rattle.sheet.specs.Data.{Sheet}
use Rattle.sheet.specs.Reading.{sheet_in}
use Rattle.rules.specs.declared.Look.{Look}
use Rattle.marks.specs.declared.arena.Arena.{Arena}
use Rattle.nodes.specs.Asked.{Ready, look_held}
use Rattle.nodes.specs.declared.Held.{Held}

-- the sheet
abbrev pub sheet_of : Held → Sheet
sheet_of h = sheet_in h.bytes.now h.layout

-- what the literals of a plain test are read off in a position
abbrev pub looks : Held → ℕ → Look
looks h = look_held h.states.now h.views.now

-- the tables hold the model of its game
abbrev pub ReadyFor : Held → Arena → Type 0
ReadyFor h a = Ready h.bytes.now h.layout a.joints.n h.states.now h.views.now a.joints.starts.now a.joints.successors.now a.counts.now
