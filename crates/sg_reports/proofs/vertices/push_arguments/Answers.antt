use Rattle.std.proofs.Common.{◌≡◌, ℕ, suc, ◌+◌, ◌<◌, List, [], ◌∷◌, ◌++◌, length, get_or, take, drop, nat_eq, count_by, sym, ap, ◌∙◌}
use Rattle.std.proofs.lemmas.List.{append_assoc, drop_more}
use Rattle.sg_kinds.proofs.Kids.{take_more}
use Rattle.sg_kinds.specs.declared.spec.Phylum.{Phylum}
use Rattle.sg_kinds.specs.declared.fault.PrintedVertex.{PrintedVertex}
use Rattle.sg_reports.specs.Vertices.{occurrence_vertices, argument_vertices}
use Rattle.sg_reports.proofs.vertices.push_arguments.Goals as goal

-- the next argument's vertices stand behind the others
next_vertices : (phyla : List Phylum) (vs ws us : List PrintedVertex) (before qs : List ℕ) (i q k : ℕ) → i < length qs → q ≡ get_or qs i q → k ≡ suc (count_by (nat_eq q) before)
    → ws ≡ vs ++ occurrence_vertices phyla q k → vs ++ argument_vertices phyla before (drop i qs) ≡ us → ws ++ argument_vertices phyla (before ++ q ∷ []) (drop (i + 1) qs) ≡ us
next_vertices phyla vs ws us before qs i q k low is count put whole =
    let rest = argument_vertices phyla (before ++ q ∷ []) (drop (i + 1) qs) in
    ap (λ xs. xs ++ rest) (put ∙ ap (λ n. vs ++ occurrence_vertices phyla q n) count)
    ∙ append_assoc vs (occurrence_vertices phyla q (suc (count_by (nat_eq q) before))) rest
    ∙ ap (λ xs. vs ++ argument_vertices phyla before xs) (sym (drop_more qs i q low ∙ ap (λ z. z ∷ drop (i + 1) qs) (sym is)))
    ∙ whole

-- the occurrences so far are the left side and so many arguments
next_before : (before new qs : List ℕ) (left i q : ℕ) → i < length qs → q ≡ get_or qs i q → before ≡ left ∷ take i qs → new ≡ before ++ q ∷ [] → new ≡ left ∷ take (i + 1) qs
next_before before new qs left i q low is so put = put ∙ ap (λ xs. xs ++ q ∷ []) so ∙ ap (λ xs. left ∷ xs) (sym (take_more qs i q low is))

pub loop-phylum-preserved : goal.loop-phylum-preserved
loop-phylum-preserved c =
    let i = c.loop-phylum.phylum-index in
    let low = c.loop-phylum-test.true in
    let put = c.in_ok-push-2.ensures.items in
    record {
      before = next_before c.loop-phylum.before.items c.push-in-loop-phylum.new.self.items c.args.args.now c.args.left i c.phylum-item.result low c.phylum-item.is c.loop-phylum.invariant.before put;
      vertices =
          ap (λ xs. c.push_occurrence.new.vertices.items ++ argument_vertices c.args.phyla.now xs (drop (i + 1) c.args.args.now)) put
          ∙ next_vertices c.args.phyla.now c.loop-phylum.vertices.items c.push_occurrence.new.vertices.items (c.args.vertices.now.items ++ argument_vertices c.args.phyla.now (c.args.left ∷ []) c.args.args.now)
          c.loop-phylum.before.items c.args.args.now i c.phylum-item.result c.in_ok-k.k low c.phylum-item.is (c.in_ok-k.ensures ∙ ap (λ xs. suc (count_by (nat_eq c.phylum-item.result) xs)) c.deref.ensures.value) c.in_ok-push_occurrence.ensures c.loop-phylum.invariant.vertices;
    }
