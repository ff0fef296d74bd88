-- What was copied.
use Rattle.std.specs.Prelude.{Option, ⊤, MatchOption}
use Rattle.sg_kinds.specs.Fits.{Fits}
use Rattle.sg_kinds.specs.declared.spec.Spec.{Spec}
use Rattle.sg_edits.specs.declared.clip.Clip.{Clip}

-- what was copied fits its phylum
abbrev pub IsClip : Spec → Option Clip → Type 0
IsClip spec clip = MatchOption clip ⊤ (λ c. Fits spec c.term c.phylum)
