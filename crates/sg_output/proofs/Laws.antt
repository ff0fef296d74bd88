-- One part of a run after another
use Rattle.std.proofs.Common.{◌≡◌, ◌<◌, ℕ, ◌+◌, List, [], ◌∷◌, ◌++◌, length, take, get_or, sum, Option, Some, None, inl, inr, refl, sym, ap, ◌∙◌, subst, append_assoc, arith, length-append, add_assoc}
use Rattle.std.proofs.Math.Seq.{take-append-add}
use Rattle.std.proofs.lemmas.List.{get_or-append-add}
use Rattle.std.proofs.lemmas.Grind.{common_steps}
use Rattle.sg_outside.specs.Count.{Rose, answered_by, tallied}
use Rattle.sg_outside.specs.Sink.{appended}
use Rattle.sg_replies.specs.declared.reply.Reply.{Reply}
use Rattle.sg_outside.proofs.Tally.{tallied-tallied}
use Rattle.sg_replies.proofs.Laws.{calls_then, served_then, served_then_or_one_more}
use Rattle.sg_output.specs.declared.status.Status.{Status}
use Rattle.sg_output.specs.Output.{Output, before, joined}
use Rattle.sg_output.specs.World.{World, PutsOrOneMore, WroteWhole, WroteFront, WroteCounted}
use Rattle.sg_output.specs.Ran.{Ends}
use Rattle.sg_output.specs.Parts.{Goes}

pub joined-append : (xs ys : List (List ℕ)) → joined (xs ++ ys) ≡ joined xs ++ joined ys
joined-append [] ys = refl
joined-append (x ∷ xs) ys = ap (λ (v : List ℕ). x ++ v) (joined-append xs ys) ∙ sym (append_assoc x (joined xs) (joined ys))

pub appended-append : (w : Option (List ℕ)) (xs ys : List ℕ) → appended w (xs ++ ys) ≡ appended (appended w xs) ys
appended-append None xs ys = refl
appended-append (Some w) xs ys = ap (λ (v : List ℕ). Some v) (sym (append_assoc w xs ys))

pub appended-nil : (w : Option (List ℕ)) → appended w [] ≡ w
appended-nil None = refl
appended-nil (Some w) = simp common_steps

sum-append : (xs ys : List ℕ) → sum (xs ++ ys) ≡ sum xs + sum ys
sum-append xs ys = grind (arith, common_steps)

-- some blocks were written, and then a piece
piece_after : (old between new : Option (List ℕ)) (xs : List (List ℕ)) (piece : List ℕ) → between ≡ appended old (joined xs) → new ≡ appended between piece
    → new ≡ appended old (joined xs ++ piece)
piece_after old between new xs piece e f = f ∙ ap (λ (w : Option (List ℕ)). appended w piece) e ∙ sym (appended-append old (joined xs) piece)

-- some blocks were written, and then some more
written_after : (old between new : Option (List ℕ)) (xs ys : List (List ℕ)) → between ≡ appended old (joined xs) → new ≡ appended between (joined ys)
    → new ≡ appended old (joined (xs ++ ys))
written_after old between new xs ys e f =
    piece_after old between new xs (joined ys) e f ∙ ap (λ (v : List ℕ). appended old v) (sym (joined-append xs ys))

-- so many puts, and then so many more
puts_then : (m n : ℕ) (old between new : Option ℕ) → between ≡ tallied m old → new ≡ tallied n between → new ≡ tallied (m + n) old
puts_then m n old between new e f = f ∙ ap (λ (c : Option ℕ). tallied n c) e ∙ tallied-tallied m n old

-- so many puts, and then so many more or one more than that
puts_or_one_more_then : (M M' : Type 0) (m n : ℕ) (old between new : Option ℕ) → (M → M') → between ≡ tallied m old → PutsOrOneMore M n between new
    → PutsOrOneMore M' (m + n) old new
puts_or_one_more_then M M' m n old between new more e (inl f) = inl (puts_then m n old between new e f)
puts_or_one_more_then M M' m n old between new more e (inr f) =
    inr (more f.0, puts_then m (n + 1) old between new e f.1 ∙ ap (λ (k : ℕ). tallied k old) (sym (add_assoc m n 1)))

wrote_whole_after : (old between new : World) (xs ys : List (List ℕ)) (k : ℕ) → between.sink.written ≡ appended old.sink.written (joined xs)
    → between.sink.puts ≡ tallied (length xs) old.sink.puts → WroteWhole k between.sink new.sink ys → WroteWhole (length xs + k) old.sink new.sink (xs ++ ys)
wrote_whole_after old between new xs ys k e p w = record {
  written = written_after old.sink.written between.sink.written new.sink.written xs (take k ys) e w.written
      ∙ ap (λ (bs : List (List ℕ)). appended old.sink.written (joined bs)) (sym (take-append-add xs ys k));
  puts = puts_or_one_more_then (k < length ys) (length xs + k < length (xs ++ ys)) (length xs) k old.sink.puts between.sink.puts new.sink.puts
      (λ more. omega (arith, more, length-append xs ys)) p w.puts;
}

wrote_front_after : (old between new : World) (xs ys : List (List ℕ)) (k : ℕ) → between.sink.written ≡ appended old.sink.written (joined xs)
    → between.sink.puts ≡ tallied (length xs) old.sink.puts → WroteFront k between.sink new.sink ys → WroteFront (length xs + k) old.sink new.sink (xs ++ ys)
wrote_front_after old between new xs ys k e p w = record {
  front = w.front;
  more = let m = w.more in omega (arith, m, length-append xs ys);
  written = piece_after old.sink.written between.sink.written new.sink.written xs (joined (take k ys) ++ take w.front (get_or ys k [])) e w.written
      ∙ ap (λ (v : List ℕ). appended old.sink.written v) (sym (append_assoc (joined xs) (joined (take k ys)) (take w.front (get_or ys k []))))
      ∙ ap (λ (v : List ℕ). appended old.sink.written (v ++ take w.front (get_or ys k []))) (sym (joined-append xs (take k ys)))
      ∙ ap (λ (bs : List (List ℕ)). appended old.sink.written (joined bs ++ take w.front (get_or ys k []))) (sym (take-append-add xs ys k))
      ∙ ap (λ (b : List ℕ). appended old.sink.written (joined (take (length xs + k) (xs ++ ys)) ++ take w.front b)) (sym (get_or-append-add xs ys k []));
  puts = puts_then (length xs) (k + 1) old.sink.puts between.sink.puts new.sink.puts p w.puts
      ∙ ap (λ (n : ℕ). tallied n old.sink.puts) (sym (add_assoc (length xs) k 1));
}

sum-take : (xs ys : List ℕ) (k : ℕ) → sum (take (length xs + k) (xs ++ ys)) ≡ sum xs + sum (take k ys)
sum-take xs ys k = ap sum (take-append-add xs ys k) ∙ sum-append xs (take k ys)

pub wrote_counted_after : (old between new : World) (t u : Output) (got : List Reply) (status : Status) → Goes old t got between → (c : WroteCounted status between new u)
    → (w : WroteCounted status old new (before t u)) × (w.k ≡ length t.blocks + c.k)
wrote_counted_after old between new t u got status p c =
    let least = c.least in let most = c.most in
    let here : sum (take (length t.blocks + c.k) (t.evs ++ u.evs)) ≡ sum t.evs + sum (take c.k u.evs) = rw p.each (sum-take t.evs u.evs c.k) in
    let next : sum (take (length t.blocks + c.k + 1) (t.evs ++ u.evs)) ≡ sum t.evs + sum (take (c.k + 1) u.evs) =
    rw p.each (subst (λ (n : ℕ). sum (take n (t.evs ++ u.evs)) ≡ sum t.evs + sum (take (c.k + 1) u.evs)) (sym (add_assoc (length t.evs) c.k 1)) (sum-take t.evs u.evs (c.k + 1))) in (
      record {
        k = length t.blocks + c.k;
        within = omega (arith, c.within, length-append t.blocks u.blocks);
        memory = λ is. wrote_whole_after old between new t.blocks u.blocks c.k p.output p.puts (c.memory is);
        fault = λ is. wrote_front_after old between new t.blocks u.blocks c.k p.output p.puts (c.fault is);
        least = omega (arith, least, here, p.evaluated);
        most = omega (arith, most, next, p.evaluated);
      },
      refl,
    )

-- the run goes on over t, and ends in u
pub goes_and_ends : (old between new : World) (t u : Output) (got more : List Reply) (status : Status) → Goes old t got between → Ends between u more status new
    → Ends old (before t u) (got ++ more) status new
goes_and_ends old between new t u got more status p q = record {
  output = λ is. written_after old.sink.written between.sink.written new.sink.written t.blocks u.blocks p.output (q.output is);
  puts = λ is. puts_then (length t.blocks) (length u.blocks) old.sink.puts between.sink.puts new.sink.puts p.puts (q.puts is)
      ∙ ap (λ (n : ℕ). tallied n old.sink.puts) (sym (length-append t.blocks u.blocks));
  evaluated = λ is. let e = q.evaluated is in omega (arith, p.evaluated, e, sum-append t.evs u.evs);
  finished = q.finished;
  cut = λ is. (wrote_counted_after old between new t u got status p (q.cut is)).0;
  taken = omega (arith, p.taken, q.taken, length-append got more);
  served = served_then_or_one_more old.shelf between.shelf new.shelf t.requests u.requests got more p.answered p.served q.served;
  calls = λ is. calls_then (length got) (length more) old.shelf.calls between.shelf.calls new.shelf.calls p.served.calls (q.calls is)
      ∙ ap (λ (n : ℕ). answered_by n old.shelf.calls) (sym (length-append got more));
  sink_later = omega (arith, p.sink_later, q.sink_later);
  sink_fault = λ is. let r : Rose between.sink.faults new.sink.faults = q.sink_fault is in omega (arith, p.sink_later, r);
}

-- the run goes on over t, and then over u
pub goes_on : (old between new : World) (t u : Output) (got more : List Reply) → Goes old t got between → Goes between u more new
    → Goes old (before t u) (got ++ more) new
goes_on old between new t u got more p q = record {
  output = written_after old.sink.written between.sink.written new.sink.written t.blocks u.blocks p.output q.output;
  puts = puts_then (length t.blocks) (length u.blocks) old.sink.puts between.sink.puts new.sink.puts p.puts q.puts
      ∙ ap (λ (n : ℕ). tallied n old.sink.puts) (sym (length-append t.blocks u.blocks));
  evaluated = omega (arith, p.evaluated, q.evaluated, sum-append t.evs u.evs);
  each = omega (arith, p.each, q.each, length-append t.blocks u.blocks, length-append t.evs u.evs);
  taken = omega (arith, p.taken, q.taken, length-append got more);
  answered = omega (arith, p.answered, q.answered, length-append t.requests u.requests, length-append got more);
  served = served_then old.shelf between.shelf new.shelf t.requests u.requests got more p.answered p.served q.served;
  sink_later = omega (arith, p.sink_later, q.sink_later);
}

pub before-before : (t u v : Output) → before t (before u v) ≡ before (before t u) v
before-before t u v =
    let b : t.blocks ++ (u.blocks ++ v.blocks) ≡ (t.blocks ++ u.blocks) ++ v.blocks = sym (append_assoc t.blocks u.blocks v.blocks) in
    let e : t.evs ++ (u.evs ++ v.evs) ≡ (t.evs ++ u.evs) ++ v.evs = sym (append_assoc t.evs u.evs v.evs) in
    let r : t.requests ++ (u.requests ++ v.requests) ≡ (t.requests ++ u.requests) ++ v.requests = sym (append_assoc t.requests u.requests v.requests) in
    let n : t.taken + (u.taken + v.taken) ≡ (t.taken + u.taken) + v.taken = omega arith in
    λ i. record { blocks = b i; evs = e i; status = v.status; requests = r i; taken = n i }

abbrev pub nothing : Output
nothing = record { blocks = []; evs = []; status = None; requests = []; taken = 0 }

pub before_nothing : (t : Output) → before nothing t ≡ t
before_nothing t = let n : 0 + t.taken ≡ t.taken = omega arith in λ i. record { blocks = t.blocks; evs = t.evs; status = t.status; requests = t.requests; taken = n i }
