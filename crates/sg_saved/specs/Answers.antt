-- What the answer of a reading says.
use Rattle.std.specs.Prelude.{Option, Some, None, Result, Ok, Err}
use Rattle.sg_kinds.specs.Terms.{Term}
use Rattle.sg_kinds.specs.ValueOf.{value_of}
use Rattle.sg_kinds.specs.Values.{Value}
use Rattle.sg_saved.specs.Read.{Opened, FormAt, PhylumAt, TooLarge, Holds}
use Rattle.sg_saved.specs.declared.reading.OpenFault.{OpenFault}
use Rattle.sg_saved.specs.declared.reading.OpenFault.TheVariants as fault

-- what became of the text, but for want of memory
abbrev pub opened_of : Result Value OpenFault → Option Opened
opened_of (Ok v) = Some (Holds v)
opened_of (Err (fault.Form at)) = Some (FormAt at)
opened_of (Err (fault.Phylum at)) = Some (PhylumAt at)
opened_of (Err (fault.Size nodes depth)) = Some (TooLarge nodes depth)
opened_of (Err fault.NoMemory) = None

-- and where a plain term stands for its value
abbrev pub opened_as : Result Term OpenFault → Option Opened
opened_as (Ok t) = Some (Holds (value_of t))
opened_as (Err (fault.Form at)) = Some (FormAt at)
opened_as (Err (fault.Phylum at)) = Some (PhylumAt at)
opened_as (Err (fault.Size nodes depth)) = Some (TooLarge nodes depth)
opened_as (Err fault.NoMemory) = None
