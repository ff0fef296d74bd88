-- What an editing command makes of a term and a selected place.
use Rattle.std.specs.Prelude.{◌≡◌, ℕ, ⊤, Some, nat_le, ◌&&◌, if◌then◌else◌}
use Rattle.sg_kinds.specs.Fits.{Fits}
use Rattle.sg_kinds.specs.Places.{Place, place_of, put, sub}
use Rattle.sg_kinds.specs.Terms.{Term, nodes_of, height_of}
use Rattle.sg_kinds.specs.declared.spec.Spec.{Spec}
use Rattle.sg_script.specs.declared.message.Message.{Message}
use Rattle.sg_script.specs.declared.message.Message.TheVariants as message
use Rattle.sg_edits.specs.declared.choice.Choice as declared
use Rattle.sg_edits.specs.declared.choice.Choice.TheVariants as given

-- what is selected: a place, and from it on so many elements of a list, or it alone
pub record Picked : Type 0 where
  pub place : Place
  pub count : ℕ

abbrev pub one : Place → Picked
one u = record { place = u; count = 1 }

-- a refusal, or a term that is to stand in a place, and what is selected then
pub data Choice : Type 0 where
  Refused : Message → Choice
  Put : (at : Place) → Term → (select : Picked) → Choice

-- what a choice of the code says
abbrev pub choice_of : declared.Choice → Choice
choice_of (given.Refused m) = Refused m
choice_of (given.Put at term select count) =
    Put (place_of at) term (record { place = place_of select; count = count })

-- a term fits where another stands
pub record FitsThere (spec : Spec) (t : Term) (u : Place) (s : Term) : Type 0 where
  pub old : Term
  pub there : sub t u ≡ Some old
  pub phylum : ℕ
  pub stood : Fits spec old phylum
  pub fits : Fits spec s phylum

-- what is put fits in its place
abbrev pub IsFit : Spec → Term → Choice → Type 0
IsFit spec t (Refused m) = ⊤
IsFit spec t (Put at s select) = FitsThere spec t at s

-- the last guard: the whole term stays in the limits of a buffer's term
abbrev pub limited : Term → Choice → Choice
limited t (Refused m) = Refused m
limited t (Put at s select) =
    if nat_le (nodes_of (put t at s)) 65536 && nat_le (height_of (put t at s)) 1024 then Put at s select
    else Refused message.Size
