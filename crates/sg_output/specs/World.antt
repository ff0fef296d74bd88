-- What a run finds and leaves: the shelf, the sink and the journal
use Rattle.std.specs.Prelude.{◌≡◌, ◌⊎◌, ◌≤◌, ◌<◌, ℕ, ◌+◌, List, [], ◌++◌, length, take, get_or, sum, Option}
use Rattle.sg_outside.specs.Shelf.{ShelfState}
use Rattle.sg_outside.specs.Count.{tallied}
use Rattle.sg_outside.specs.Sink.{SinkState, appended}
use Rattle.sg_output.specs.declared.status.Status.{Status}
use Rattle.sg_output.specs.declared.status.Status.TheVariants.{Memory, SinkFault}
use Rattle.sg_output.specs.Output.{Output, joined}

-- what is known of the shelf and of the sink, and how many entries the journal has in all
pub record World : Type 0 where
  pub shelf : ShelfState
  pub sink : SinkState
  pub counted : ℕ

abbrev pub world : ShelfState → SinkState → ℕ → World
world shelf sink counted = record { shelf = shelf; sink = sink; counted = counted }

-- there were so many puts, or, where More holds, one more
abbrev pub PutsOrOneMore : Type 0 → ℕ → Option ℕ → Option ℕ → Type 0
PutsOrOneMore More n old new = (new ≡ tallied n old) ⊎ (More × (new ≡ tallied (n + 1) old))

-- k whole blocks were written, each by one put; the next one may have been refused by one put more
pub record WroteWhole (k : ℕ) (old new : SinkState) (blocks : List (List ℕ)) : Type 0 where
  pub written : new.written ≡ appended old.written (joined (take k blocks))
  pub puts : PutsOrOneMore (k < length blocks) k old.puts new.puts

-- k whole blocks were written, each by one put, and a front of the next by the last put, which failed
pub record WroteFront (k : ℕ) (old new : SinkState) (blocks : List (List ℕ)) : Type 0 where
  pub front : ℕ
  pub more : k < length blocks
  pub written : new.written ≡ appended old.written (joined (take k blocks) ++ take front (get_or blocks k []))
  pub puts : new.puts ≡ tallied (k + 1) old.puts

-- k whole blocks were written, and nothing else but, after a fault of the sink, a front of the next; the journal counts
-- what was evaluated for them, and no more than what is evaluated for the next besides
pub record WroteCounted (status : Status) (old new : World) (t : Output) : Type 0 where
  pub k : ℕ
  pub within : k ≤ length t.blocks
  pub memory : status ≡ Memory → WroteWhole k old.sink new.sink t.blocks
  pub fault : status ≡ SinkFault → WroteFront k old.sink new.sink t.blocks
  pub least : old.counted + sum (take k t.evs) ≤ new.counted
  pub most : new.counted ≤ old.counted + sum (take (k + 1) t.evs)

-- some whole blocks were written, and nothing else
abbrev pub WholeBlocks : Option (List ℕ) → Option (List ℕ) → List (List ℕ) → Type 0
WholeBlocks old new blocks = (k : ℕ) × (k ≤ length blocks) × (new ≡ appended old (joined (take k blocks)))
