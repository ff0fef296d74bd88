-- What an editor keeps, and the session that it stands for.
use Rattle.std.specs.Prelude.{◌≡◌, ◌<◌, ℕ, List, map, length, All, slice_get, Option, Some, option_and_then, MatchOption, ⊤, refl}
use Rattle.std.specs.Coded.{Coded, code_by, coded×, coded_ℕ, coded_list, coded_option}
use Rattle.sg_kinds.specs.Values.{Bytes}
use Rattle.sg_kinds.specs.declared.spec.Spec.{Spec}
use Rattle.sg_load.specs.Loaded.{Contents}
use Rattle.sg_edits.specs.declared.clip.Clip.{Clip}
use Rattle.sg_states.specs.States.{State}
use Rattle.sg_buffer.specs.Held.{Held, state_of}
use Rattle.sg_commands.specs.Clipped.{IsClip}
use Rattle.sg_commands.specs.Typing.{IsTyping}
use Rattle.sg_editor.specs.declared.desk.Named.{Named}
use Rattle.sg_editor.specs.Session.{Session, current_of}

-- an accepted specification, and a window
pub record Setting : Type 0 where
  pub contents : Contents
  pub width : ℕ
  pub height : ℕ

-- the buffers with their names, which of them is current, what was copied last, and how many loads have called the shelf
pub record Kept : Type 0 where
  pub buffers : List Named
  pub current : Option ℕ
  pub clip : Option Clip
  pub loads : ℕ

pub record Editing : Type 0 where
  pub setting : Setting
  pub kept : Kept

-- each is stored as the tuple of its fields
abbrev pub setting_code : Coded Contents → Coded Setting
setting_code contents = code_by (Contents × (ℕ × ℕ)) (coded× contents (coded× coded_ℕ coded_ℕ))
    (λ s. (s.contents, (s.width, s.height))) (λ p. record { contents = p.0; width = p.1.0; height = p.1.1 }) (λ _. refl)

abbrev pub kept_code : Coded Named → Coded Clip → Coded Kept
kept_code named clip = code_by (List Named × (Option ℕ × (Option Clip × ℕ)))
    (coded× (coded_list named) (coded× (coded_option coded_ℕ) (coded× (coded_option clip) coded_ℕ)))
    (λ k. (k.buffers, (k.current, (k.clip, k.loads))))
    (λ p. record { buffers = p.0; current = p.1.0; clip = p.1.1.0; loads = p.1.1.1 }) (λ _. refl)

abbrev pub editing_code : Coded Setting → Coded Kept → Coded Editing
editing_code setting kept = code_by (Setting × Kept) (coded× setting kept) (λ e. (e.setting, e.kept))
    (λ p. record { setting = p.0; kept = p.1 }) (λ _. refl)

abbrev pub spec_in : Editing → Spec
spec_in e = e.setting.contents.spec

abbrev pub width_in : Editing → ℕ
width_in e = e.setting.width

abbrev pub height_in : Editing → ℕ
height_in e = e.setting.height

-- the session: of each buffer its state
abbrev pub told : Named → Bytes × State
told b = (b.name, state_of b.buffer)

abbrev pub session_in : Kept → Session
session_in k = record { buffers = map told k.buffers; current = k.current; clip = k.clip; loads = k.loads }

unfoldable pub session_of : Editing → Session
session_of e = session_in e.kept

-- the current buffer
abbrev pub current_in : Kept → Option Named
current_in k = option_and_then (slice_get k.buffers) k.current

-- a buffer that stands for the current one, with its name, over the specification of the session
pub record IsCurrent (e : Editing) (b : Held) : Type 0 where
  pub name : Bytes
  pub is : current_of (session_of e) ≡ Some (name, state_of b)
  pub spec : b.grove.spec ≡ spec_in e

module _ (spec : Spec) (height : ℕ) where
  -- a buffer of this specification, with a window of this height, in which a text is typed only where one may be
  pub record IsOver (b : Held) : Type 0 where
    pub spec_is : b.grove.spec ≡ spec
    pub height_is : b.height ≡ height
    pub typing : IsTyping spec (state_of b)

  -- all buffers are so, the current one is among them, and what was copied fits its phylum
  pub record IsKept (k : Kept) : Type 0 where
    pub over : All (λ (b : Named). IsOver b.buffer) k.buffers
    pub current : MatchOption k.current ⊤ (λ i. i < length k.buffers)
    pub clip : IsClip spec k.clip
