-- How many buffers a session has, and by which names.
use Rattle.std.specs.Prelude.{◌≤◌, List, length, map}
use Rattle.sg_kinds.specs.Values.{Bytes}
use Rattle.sg_kinds.specs.Sound.{AreDistinct}
use Rattle.sg_states.specs.States.{State}
use Rattle.sg_editor.specs.Ask.{most_buffers}
use Rattle.sg_editor.specs.Session.{Session}

-- the names of the buffers
abbrev pub names_in : List (Bytes × State) → List Bytes
names_in buffers = map (λ (b : Bytes × State). b.0) buffers

-- at most 64 buffers, no two of one name
pub record HasFewBuffers (s : Session) : Type 0 where
  pub few : length s.buffers ≤ most_buffers
  pub distinct : AreDistinct (names_in s.buffers)
