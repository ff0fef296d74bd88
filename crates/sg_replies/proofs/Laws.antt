-- Calls of a shelf one after another
use Rattle.std.proofs.Common.{◌≡◌, ◌≤◌, inl, inr, ℕ, ◌+◌, zero, suc, List, [], ◌∷◌, ◌++◌, length, Option, refl, sym, ap, ◌∙◌, subst, arith, length-append, add-zero}
use Rattle.sg_outside.specs.Shelf.{KnownFiles, ShelfState}
use Rattle.sg_outside.specs.Count.{Calls, raised, raised_by, answered_by, unanswered_once, Rose}
use Rattle.sg_outside.proofs.Tally.{raised_by-raised_by, answered_by-zero, answered_by-answered_by}
use Rattle.sg_replies.specs.declared.reply.Reply.{Reply}
use Rattle.sg_replies.specs.Requests.{Request, files_after, failure, failures, Serves}
use Rattle.sg_replies.specs.Counts.{CallsOrOneMore}
use Rattle.sg_replies.specs.Calls.{Replied, Unanswered, Served, ServedOrOneMore}

pub failures-append : (xs ys : List Reply) → failures (xs ++ ys) ≡ failures xs + failures ys
failures-append [] ys = omega arith
failures-append (x ∷ xs) ys = let e = failures-append xs ys in omega arith

raised_by-≤ : (n a b : ℕ) → a ≤ b → raised_by n a ≤ raised_by n b
raised_by-≤ zero a b le = le
raised_by-≤ (suc n) a b le = raised_by-≤ n (raised a) (raised b) (omega arith)

pub ≤-raised_by : (n count : ℕ) → count ≤ 18446744073709551615 → count ≤ raised_by n count
≤-raised_by zero count le = omega arith
≤-raised_by (suc n) count le = let h = ≤-raised_by n (raised count) (omega arith) in omega (arith, h)

-- a count rose where it rose by one and more
pub rose_by : (n before now : ℕ) → raised_by (n + 1) before ≤ now → Rose before now
rose_by n before now le =
    let e : raised_by (n + 1) before ≡ raised_by n (raised before) = let one : n + 1 ≡ suc n = omega arith in ap (λ (k : ℕ). raised_by k before) one in
    let h = ≤-raised_by n (raised before) (omega arith) in omega (arith, le, e, h)

-- failures add up
pub faults_then : (m n old between new : ℕ) → raised_by m old ≤ between → raised_by n between ≤ new → raised_by (m + n) old ≤ new
faults_then m n old between new p q =
    let h = raised_by-≤ n (raised_by m old) between p in
    let e = raised_by-raised_by m n old in omega (arith, h, e, q)

-- so many answered calls, and then so many more
pub calls_then : (m n : ℕ) (old between new : Option Calls) → between ≡ answered_by m old → new ≡ answered_by n between → new ≡ answered_by (m + n) old
calls_then m n old between new e f = f ∙ ap (λ (c : Option Calls). answered_by n c) e ∙ answered_by-answered_by m n old

-- so many answered calls, and then so many more, and perhaps one that was not answered
pub calls_or_one_more_then : (M M' : Type 0) (m n : ℕ) (old between new : Option Calls) → (M → M') → between ≡ answered_by m old → CallsOrOneMore M n between new
    → CallsOrOneMore M' (m + n) old new
calls_or_one_more_then M M' m n old between new more e (inl f) = inl (calls_then m n old between new e f)
calls_or_one_more_then M M' m n old between new more e (inr f) =
    inr (more f.0, f.1 ∙ ap (λ (c : Option Calls). unanswered_once c) (calls_then m n old between (answered_by n between) e refl))

-- without a reply the files are as before, where one request at most is made
pub Serves-nil : (requests : List Request) (old new : KnownFiles) → length requests ≤ 1 → new ≡ old → Serves old requests [] new
Serves-nil [] old new most e = e
Serves-nil (q ∷ []) old new most e = e
Serves-nil (q ∷ r ∷ requests) old new most e = absurd (omega (arith, most))

-- the replies to these requests, and then those to more requests
pub Serves-append : (files : KnownFiles) (qs qs' : List Request) (rs rs' : List Reply) (between after : KnownFiles) → length qs ≡ length rs
    → Serves files qs rs between → Serves between qs' rs' after → Serves files (qs ++ qs') (rs ++ rs') after
Serves-append files [] qs' [] rs' between after e s t = subst (λ (f : KnownFiles). Serves f qs' rs' after) s t
Serves-append files [] qs' (r ∷ rs) rs' between after e s t = absurd s
Serves-append files (q ∷ qs) qs' [] rs' between after e s t = absurd (omega (arith, e))
Serves-append files (q ∷ qs) qs' (r ∷ rs) rs' between after e s t = (s.0, s.1, Serves-append (files_after files q r) qs qs' rs rs' between after (omega arith) s.2 t)

-- one call and its reply
pub served_one : (request : Request) (reply : Reply) (old new : ShelfState) → Replied request reply old new → Served old (request ∷ []) (reply ∷ []) new
served_one request reply old new r = record {
  files = (r.kind, r.answers, r.files);
  faults = subst (λ (n : ℕ). raised_by n old.faults ≤ new.faults) (sym (add-zero (failure reply))) r.faults;
  later = r.later;
  calls = r.calls;
}

-- the replies to these requests, and then those to more requests
pub served_then : (old between new : ShelfState) (qs qs' : List Request) (rs rs' : List Reply) → length qs ≡ length rs
    → Served old qs rs between → Served between qs' rs' new → Served old (qs ++ qs') (rs ++ rs') new
served_then old between new qs qs' rs rs' e p q = record {
  files = Serves-append old.files qs qs' rs rs' between.files new.files e p.files q.files;
  faults = subst (λ (n : ℕ). raised_by n old.faults ≤ new.faults) (sym (failures-append rs rs')) (faults_then (failures rs) (failures rs') old.faults between.faults new.faults p.faults q.faults);
  later = let l = p.later in let k = q.later in omega arith;
  calls = calls_then (length rs) (length rs') old.calls between.calls new.calls p.calls q.calls
      ∙ ap (λ (n : ℕ). answered_by n old.calls) (sym (length-append rs rs'));
}

-- the replies to these requests, and then those to more requests, and perhaps one more call
pub served_then_or_one_more : (old between new : ShelfState) (qs qs' : List Request) (rs rs' : List Reply) → length qs ≡ length rs
    → Served old qs rs between → ServedOrOneMore between qs' rs' new → ServedOrOneMore old (qs ++ qs') (rs ++ rs') new
served_then_or_one_more old between new qs qs' rs rs' e p q = record {
  files = Serves-append old.files qs qs' rs rs' between.files new.files e p.files q.files;
  faults = subst (λ (n : ℕ). raised_by n old.faults ≤ new.faults) (sym (failures-append rs rs')) (faults_then (failures rs) (failures rs') old.faults between.faults new.faults p.faults q.faults);
  later = let l = p.later in let k = q.later in omega arith;
  calls = subst (λ (n : ℕ). CallsOrOneMore (length (qs ++ qs') ≡ length (rs ++ rs') + 1) n old.calls new.calls) (sym (length-append rs rs'))
      (calls_or_one_more_then (length qs' ≡ length rs' + 1) (length (qs ++ qs') ≡ length (rs ++ rs') + 1) (length rs) (length rs') old.calls between.calls new.calls
      (λ more. omega (arith, e, more, length-append qs qs', length-append rs rs')) p.calls q.calls);
}

-- no call brought a reply: none was made
pub none_or_one_more : (requests : List Request) (s : ShelfState) → length requests ≤ 1 → ServedOrOneMore s requests [] s
none_or_one_more requests s most = record {
  files = Serves-nil requests s.files s.files most refl;
  faults = omega arith;
  later = omega arith;
  calls = inl (sym (answered_by-zero s.calls));
}

-- no call brought a reply: one was made, and there was no memory
pub unanswered_one_more : (request : Request) (old new : ShelfState) → Unanswered old new → ServedOrOneMore old (request ∷ []) [] new
unanswered_one_more request old new u = record {
  files = u.files;
  faults = let l = u.later in omega (arith, l);
  later = u.later;
  calls = inr (refl, u.calls ∙ ap (λ (c : Option Calls). unanswered_once c) (sym (answered_by-zero old.calls)));
}
