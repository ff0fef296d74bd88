-- How a part of a run ends
use Rattle.std.proofs.Common.{◌≡◌, ◌≤◌, ℕ, ◌+◌, List, [], ◌∷◌, take, sum, length, Option, Some, inl, inr, refl, sym, ap, ◌∙◌, subst, arith, append-nil}
use Rattle.sg_outside.specs.Count.{Rose, answered_by, tallied}
use Rattle.sg_outside.specs.Sink.{SinkState, CutShort, appended}
use Rattle.sg_outside.proofs.Tally.{answered_by-zero, tallied-zero}
use Rattle.sg_replies.specs.declared.reply.Reply.{Reply}
use Rattle.sg_outside.specs.Shelf.{ShelfState}
use Rattle.sg_replies.specs.Calls.{ServedOrOneMore}
use Rattle.sg_replies.proofs.Laws.{none_or_one_more}
use Rattle.sg_output.specs.declared.status.Status.{Status}
use Rattle.sg_output.specs.declared.status.Status.TheVariants.{Done, Memory, Usage, ReadFault, SpecFault, ScriptFault, SinkFault, ReportFault}
use Rattle.sg_output.specs.Statuses.{IsEnd, IsCut}
use Rattle.sg_output.specs.Opening.{IsQuiet, Silent}
use Rattle.sg_output.specs.Output.{Output, text, finished, joined}
use Rattle.sg_output.specs.World.{World, world, WroteWhole, WroteFront}
use Rattle.sg_output.specs.Ran.{Ends}
use Rattle.sg_output.specs.Parts.{Finished}
use Rattle.sg_output.proofs.Laws.{appended-nil}

pub one_block : (old new : Option (List ℕ)) (block : List ℕ) → new ≡ appended old block → new ≡ appended old (joined (block ∷ []))
one_block old new block e = e ∙ ap (λ (v : List ℕ). appended old v) (sym (append-nil block))

-- nothing was written, and no put was made but perhaps one that was refused
nothing_whole : (old new : SinkState) (blocks : List (List ℕ)) → new.written ≡ old.written → new.puts ≡ old.puts → WroteWhole 0 old new blocks
nothing_whole old new blocks e p = record { written = e ∙ sym (appended-nil old.written); puts = inl (p ∙ sym (tallied-zero old.puts)) }

pub nothing_first : (old new : SinkState) (block : List ℕ) (blocks : List (List ℕ)) → new.written ≡ old.written → new.puts ≡ old.puts → WroteWhole 0 old new (block ∷ blocks)
nothing_first old new block blocks e p = nothing_whole old new (block ∷ blocks) e p

pub refused_whole : (old new : SinkState) (block : List ℕ) (blocks : List (List ℕ)) → new.written ≡ old.written → new.puts ≡ tallied 1 old.puts
    → WroteWhole 0 old new (block ∷ blocks)
refused_whole old new block blocks e p = record { written = e ∙ sym (appended-nil old.written); puts = inr (omega arith, p) }

-- a front of the first block was written
pub first_front : (old new : SinkState) (block : List ℕ) (blocks : List (List ℕ)) → CutShort old.written new.written block → new.puts ≡ tallied 1 old.puts
    → WroteFront 0 old new (block ∷ blocks)
first_front old new block blocks c p = record { front = c.0; more = omega arith; written = c.2; puts = p }

-- want of memory where nothing was written, and perhaps some equations of the next block were evaluated
pub ends_memory : (shelf shelf' : ShelfState) (sink : SinkState) (n m : ℕ) (t : Output) (got : List Reply) → t.taken ≡ length got → ServedOrOneMore shelf t.requests got shelf' → n ≤ m → m ≤ n + sum (take 1 t.evs)
    → Ends (world shelf sink n) t got Memory (world shelf' sink m)
ends_memory shelf shelf' sink n m t got quiet served least most = record {
  output = λ is. absurd is;
  puts = λ is. absurd is;
  evaluated = λ is. absurd is;
  finished = λ is. absurd is;
  cut = λ _. record {
    k = 0;
    within = omega arith;
    memory = λ _. nothing_whole sink sink t.blocks refl refl;
    fault = λ is. cc;
    least = omega (arith, least);
    most = omega (arith, most);
  };
  taken = quiet;
  served = served;
  calls = λ other. absurd (other refl);
  sink_later = omega arith;
  sink_fault = λ is. cc;
}

-- want of memory before anything was put
pub ends_early : (shelf : ShelfState) (sink : SinkState) (n : ℕ) (t : Output) → IsQuiet t → Ends (world shelf sink n) t [] Memory (world shelf sink n)
ends_early shelf sink n t quiet = ends_memory shelf shelf sink n n t [] quiet.taken (none_or_one_more t.requests shelf quiet.asked) (omega arith) (omega arith)

pub ends_silent : (shelf : ShelfState) (old new : SinkState) (status : Status) (n : ℕ) (t : Output) → IsQuiet t → Silent status old new → Ends (world shelf old n) t [] status (world shelf new n)
ends_silent shelf old new status n t quiet is =
    subst (λ (s : Status). Ends (world shelf old n) t [] s (world shelf new n)) (sym is.memory)
    (subst (λ (x : SinkState). Ends (world shelf old n) t [] Memory (world shelf x n)) (sym is.sink) (ends_early shelf old n t quiet))

-- the job is done
pub ends_done : (w : World) → Ends w finished [] Done w
ends_done w = record {
  output = λ _. sym (appended-nil w.sink.written);
  puts = λ _. sym (tallied-zero w.sink.puts);
  evaluated = λ _. omega arith;
  finished = λ _. refl;
  cut = λ is. absurd is;
  taken = refl;
  served = none_or_one_more [] w.shelf (omega arith);
  calls = λ _. sym (answered_by-zero w.shelf.calls);
  sink_later = omega arith;
  sink_fault = λ is. cc;
}

-- a text ends the run
pub ends_text : (shelf : ShelfState) (old new : SinkState) (n : ℕ) (status ended : Status) (bytes : List ℕ) → Finished status bytes old ended new
    → Ends (world shelf old n) (text status bytes) [] ended (world shelf new n)
ends_text shelf old new n status ended bytes put = record {
  output = λ is. one_block old.written new.written bytes (put.output is);
  puts = λ _. put.puts;
  evaluated = λ _. omega arith;
  finished = λ is. ap (λ (s : Status). Some s) (sym (put.status_is is));
  cut = λ _. record {
    k = 0;
    within = omega arith;
    memory = λ is. refused_whole old new bytes [] (put.memory is) put.puts;
    fault = λ is. first_front old new bytes [] (put.fault is) put.puts;
    least = omega arith;
    most = omega arith;
  };
  taken = refl;
  served = none_or_one_more [] shelf (omega arith);
  calls = λ _. sym (answered_by-zero shelf.calls);
  sink_later = put.later;
  sink_fault = put.rose;
}

pub not_both : (status : Status) → IsCut status → IsEnd status → ⊥
not_both Memory c e = e
not_both SinkFault c e = e
not_both Done c e = c
not_both Usage c e = c
not_both ReadFault c e = c
not_both SpecFault c e = c
not_both ScriptFault c e = c
not_both ReportFault c e = c

-- the first block was not put as a whole
pub ends_unput : (shelf shelf' : ShelfState) (old new : SinkState) (n m ev : ℕ) (t : Output) (got : List Reply) (status : Status) (block : List ℕ) (blocks : List (List ℕ)) (evs : List ℕ)
    → t.blocks ≡ block ∷ blocks → t.evs ≡ ev ∷ evs → t.taken ≡ length got → ServedOrOneMore shelf t.requests got shelf' → shelf'.calls ≡ answered_by (length got) shelf.calls
    → IsCut status → (status ≡ Memory → WroteWhole 0 old new (block ∷ blocks)) → (status ≡ SinkFault → WroteFront 0 old new (block ∷ blocks)) → (status ≡ SinkFault → Rose old.faults new.faults)
    → old.faults ≤ new.faults → m ≡ n + ev
    → Ends (world shelf old n) t got status (world shelf' new m)
ends_unput shelf shelf' old new n m ev t got status block blocks evs bs es taken served calls is_cut memory fault rose later counts = record {
  output = λ is. absurd (not_both status is_cut is);
  puts = λ is. absurd (not_both status is_cut is);
  evaluated = λ is. absurd (not_both status is_cut is);
  finished = λ is. absurd (not_both status is_cut is);
  cut = λ _. record {
    k = 0;
    within = omega arith;
    memory = λ is. subst (λ (xs : List (List ℕ)). WroteWhole 0 old new xs) (sym bs) (memory is);
    fault = λ is. subst (λ (xs : List (List ℕ)). WroteFront 0 old new xs) (sym bs) (fault is);
    least = omega (arith, counts);
    most = subst (λ (xs : List ℕ). m ≤ n + sum (take 1 xs)) (sym es) (omega (arith, counts));
  };
  taken = taken;
  served = served;
  calls = λ _. calls;
  sink_later = later;
  sink_fault = rose;
}

pub ends_as : (old new : World) (t u : Output) (got : List Reply) (status : Status) → u ≡ t → Ends old t got status new → Ends old u got status new
ends_as old new t u got status e p = subst (λ (v : Output). Ends old v got status new) (sym e) p

pub ends_with : (old new : World) (t : Output) (replies : List Reply) (status other : Status) → Ends old t replies status new → other ≡ status → Ends old t replies other new
ends_with old new t replies status other e is = subst (λ (s : Status). Ends old t replies s new) (sym is) e

-- nothing was put before
pub ends_quiet : (shelf : ShelfState) (old between new : SinkState) (n m : ℕ) (t : Output) (ended : Status) → between ≡ old → Ends (world shelf between n) t [] ended (world shelf new m) → Ends (world shelf old n) t [] ended (world shelf new m)
ends_quiet shelf old between new n m t ended same e = subst (λ (s : SinkState). Ends (world shelf s n) t [] ended (world shelf new m)) same e

pub finished_as : (old new : SinkState) (bytes other : List ℕ) (status ended : Status) → bytes ≡ other → Finished status bytes old ended new → Finished status other old ended new
finished_as old new bytes other status ended e p = subst (λ (x : List ℕ). Finished status x old ended new) e p
