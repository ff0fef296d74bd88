-- The lines that were read are those of the input
use Rattle.std.proofs.Common.{◌≡◌, ℕ, List, [], ◌∷◌, ◌++◌, ap, ◌∙◌}
use Rattle.std.specs.List.{flat_map}
use Rattle.std.specs.Str.Lines.{lines}
use Rattle.std.specs.Io.BufRead.{take_through, drop_through}
use Rattle.sg_console.specs.Console.{Event}
use Rattle.sg_console.specs.Console.Event.{Took, Passed, Ended, Put}
use Rattle.sg_live.specs.Outside.{AreRead}
use Rattle.sg_live.proofs.Lines.{cut_lines}

-- the lines that were read
abbrev pub taken_in : List Event → List (List ℕ)
taken_in [] = []
taken_in (Took line ∷ events) = line ∷ taken_in events
taken_in (Passed ∷ events) = taken_in events
taken_in (Ended ∷ events) = taken_in events
taken_in (Put piece ∷ events) = taken_in events

-- no line was too long
abbrev pub AreWhole : List Event → Type 0
AreWhole [] = Unit {0}
AreWhole (Took line ∷ events) = AreWhole events
AreWhole (Passed ∷ events) = ⊥
AreWhole (Ended ∷ events) = AreWhole events
AreWhole (Put piece ∷ events) = AreWhole events

pub all_lines : (events : List Event) (input : List ℕ) → AreRead input events [] → AreWhole events → flat_map lines (taken_in events) ≡ lines input
all_lines [] input h w = ap lines h
all_lines (Took line ∷ events) input h w =
    ap (λ l. l ++ flat_map lines (taken_in events)) (ap lines h.0) ∙ ap (λ l. lines (take_through 10 input) ++ l) (all_lines events (drop_through 10 input) h.1 w) ∙ cut_lines input
all_lines (Passed ∷ events) input h w = absurd w
all_lines (Ended ∷ events) input h w = all_lines events input h.1 w
all_lines (Put piece ∷ events) input h w = all_lines events input h w
