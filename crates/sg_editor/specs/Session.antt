-- What a session keeps.
use Rattle.std.specs.Prelude.{ℕ, suc, Bool, List, [], ◌∷◌, ◌++◌, length, bytes_eq, slice_get, slice_set, Option, Some, None, option_and_then}
use Rattle.std.specs.List.{position}
use Rattle.sg_kinds.specs.Values.{Bytes}
use Rattle.sg_kinds.specs.Terms.{Term}
use Rattle.sg_states.specs.States.{State, begun}
use Rattle.sg_edits.specs.declared.clip.Clip.{Clip}

-- the buffers with their names, in the order in which they were made, which of them is current, what was copied last, and
-- how many loads have called the shelf
pub record Session : Type 0 where
  pub buffers : List (Bytes × State)
  pub current : Option ℕ
  pub clip : Option Clip
  pub loads : ℕ

abbrev pub start : Session
start = record { buffers = []; current = None; clip = None; loads = 0 }

-- the place of the buffer of a name, and the current buffer
abbrev pub has_name : Bytes → Bytes × State → Bool
has_name name b = bytes_eq name b.0

abbrev pub buffer_named : Bytes → Session → Option ℕ
buffer_named name s = position (has_name name) s.buffers

abbrev pub current_of : Session → Option (Bytes × State)
current_of s = option_and_then (slice_get s.buffers) s.current

-- a new buffer of a term, which becomes current
abbrev pub with_buffer : Bytes → Term → Session → Session
with_buffer name t s = record s {
  buffers = s.buffers ++ (name, begun t) ∷ [];
  current = Some (length s.buffers);
}

-- the buffer at a place in another state
abbrev pub with_state : ℕ → Bytes → State → Session → Session
with_state k name st s = record s { buffers = slice_set s.buffers k (name, st) }

-- a load has called the shelf
abbrev pub with_load : Session → Session
with_load s = record s { loads = suc s.loads }
