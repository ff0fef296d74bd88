-- Why a transformation has no result.
use Rattle.std.specs.Prelude.{◌≡◌, ⊤}
use Rattle.sg_kinds.specs.Values.{Fault}
use Rattle.sg_matching.specs.declared.named.TransformFault.{TransformFault}
use Rattle.sg_matching.specs.declared.named.TransformFault.TheVariants as fault
use Rattle.sg_matching.specs.Transformation.{Given, Unknown, NoMatch, Gives}

-- the refusal is what the transformations give; want of memory is tied to nothing
abbrev pub IsRefused : TransformFault → Given → Type 0
IsRefused fault.Unknown given = given ≡ Unknown
IsRefused fault.NoMatch given = given ≡ NoMatch
IsRefused (fault.Outcome kind) given = given ≡ Gives (Fault kind)
IsRefused fault.NoMemory given = ⊤
