-- Steps and reasons that are written one by one.
use Rattle.std.specs.Prelude.{◌≡◌, ℕ, suc, ◌+◌, ◌<◌, ◌≤◌, List, ◌∷◌, ◌++◌, length, Option}
use Rattle.std.proofs.Common.{sym, ◌∙◌, ap, get_or, drop, add-one, append_assoc, append-nil}
use Rattle.std.proofs.Math.Seq.{drop-cons}
use Rattle.std.proofs.Math.ListN.{drop_of_length-le}
use Rattle.sg_kinds.specs.Values.{Bytes}
use Rattle.sg_kinds.specs.declared.fault.Position.{Position}
use Rattle.sg_kinds.specs.declared.fault.PrintedVertex.{PrintedVertex}
use Rattle.sg_kinds.specs.declared.fault.SpecFault.{SpecFault}
use Rattle.sg_kinds.specs.declared.spec.Phylum.{Phylum}
use Rattle.sg_kinds.specs.declared.spec.Spec.{Spec}
use Rattle.sg_kinds.specs.Specification.{rules_of}
use Rattle.sg_ast.specs.Declarations.{Decl}
use Rattle.sg_dependencies.specs.declared.fault.OrderFault.{OrderFault}
use Rattle.sg_faults.specs.FaultLine.{fault_line}
use Rattle.sg_reasons.specs.Reasons.{IsOf, IsPath}
use Rattle.sg_reasons.specs.declared.why.Path.{Path}
use Rattle.sg_reasons.specs.declared.why.Reason.{Reason}
use Rattle.sg_reasons.specs.declared.why.Step.{Step}
use Rattle.sg_reports.specs.Orders.{printed_order}
use Rattle.sg_reports.specs.Places.{operator_places}
use Rattle.sg_witnesses.specs.Cycles.{TellsCycleOf, path_text, phylum_word, reason_text, reasons_text, step_text, steps_text}

-- what is left of a list begins with its next element
next_of : {X : Type 0} (xs : List X) (i : ℕ) (x d : X) → i < length xs → get_or xs i d ≡ x → drop i xs ≡ x ∷ drop (i + 1) xs
next_of xs i x d inside at = drop-cons xs i d inside ∙ ap (λ y. y ∷ drop (suc i) xs) at ∙ ap (λ k. x ∷ drop k xs) (sym (add-one i))

-- a phylum's name behind a text
pub word_written : (out mid new a : Bytes) (phyla : List Phylum) (X Y : Option ℕ) → mid ≡ out ++ a → X ≡ Y → new ≡ mid ++ phylum_word phyla X → new ≡ out ++ (a ++ phylum_word phyla Y)
word_written out mid new a phyla X Y before same next =
    next ∙ ap (λ xs. xs ++ phylum_word phyla X) before ∙ append_assoc out a (phylum_word phyla X) ∙ ap (λ Z. out ++ (a ++ phylum_word phyla Z)) same

pub step_written : (spec : Spec) (p : ℕ) (vertices : List PrintedVertex) (m i : ℕ) (ss : List Step) (s d : Step) (out out' whole : Bytes) → i < length ss → get_or ss i d ≡ s
    → out ++ steps_text spec p vertices m (drop i ss) ≡ whole → out' ≡ out ++ step_text spec p vertices m s → out' ++ steps_text spec p vertices s.to (drop (i + 1) ss) ≡ whole
step_written spec p vertices m i ss s d out out' whole inside at so_far next =
    let rest = steps_text spec p vertices s.to (drop (i + 1) ss) in
    ap (λ xs. xs ++ rest) next ∙ append_assoc out (step_text spec p vertices m s) rest ∙ sym (ap (λ xs. out ++ steps_text spec p vertices m xs) (next_of ss i s d inside at)) ∙ so_far

pub steps_written : (spec : Spec) (p : ℕ) (vertices : List PrintedVertex) (m i : ℕ) (ss : List Step) (out whole : Bytes) → length ss ≤ i → out ++ steps_text spec p vertices m (drop i ss) ≡ whole → out ≡ whole
steps_written spec p vertices m i ss out whole past so_far = sym (append-nil out) ∙ sym (ap (λ xs. out ++ steps_text spec p vertices m xs) (drop_of_length-le ss past)) ∙ so_far

pub reason_written : (spec : Spec) (places : List Position) (i : ℕ) (rs : List Reason) (r d : Reason) (out out' whole : Bytes) → i < length rs → get_or rs i d ≡ r
    → out ++ reasons_text spec places i (drop i rs) ≡ whole → out' ≡ out ++ reason_text spec places i r → out' ++ reasons_text spec places (i + 1) (drop (i + 1) rs) ≡ whole
reason_written spec places i rs r d out out' whole inside at so_far next =
    let rest = reasons_text spec places (i + 1) (drop (i + 1) rs) in
    ap (λ xs. xs ++ rest) next ∙ append_assoc out (reason_text spec places i r) rest ∙ sym (ap (λ xs. out ++ reasons_text spec places i xs) (next_of rs i r d inside at)) ∙ so_far

pub reasons_written : (spec : Spec) (places : List Position) (i : ℕ) (rs : List Reason) (out whole : Bytes) → length rs ≤ i → out ++ reasons_text spec places i (drop i rs) ≡ whole → out ≡ whole
reasons_written spec places i rs out whole past so_far = sym (append-nil out) ∙ sym (ap (λ xs. out ++ reasons_text spec places i xs) (drop_of_length-le rs past)) ∙ so_far

-- a cycle that is told
pub cycle_told : (ds : List Decl) (spec : Spec) (f : SpecFault) (of : OrderFault) (path : Path) (text : Bytes) → IsPath (rules_of spec) path → IsOf of path
    → fault_line (printed_order spec ds of) ≡ fault_line f → text ≡ path_text spec (operator_places ds) path → TellsCycleOf ds spec f text
cycle_told ds spec f of path text holds is_of line is = record { fault = of; line = line; path = path; holds = holds; of = is_of; is = is }
