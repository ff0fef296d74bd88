-- The counts of a table are those of completing terms.
use Rattle.std.proofs.Common.{◌≡◌, ℕ, zero, suc, ◌+◌, ◌-◌, ◌<◌, ◌≤◌, List, [], ◌∷◌, map, false, Option, Some, None, slice_get, option_map, option_and_then, refl, sym, ap, ◌∙◌, arith}
use Rattle.std.proofs.lemmas.Option.{slice_get-map}
use Rattle.sg_kinds.specs.Terms.{Term, Terms, Node, NoTerm, AndTerm, nodes_of, nodes_of_all}
use Rattle.sg_kinds.specs.declared.spec.Spec.{Spec}
use Rattle.sg_kinds.specs.declared.spec.Phylum.{Phylum}
use Rattle.sg_kinds.specs.declared.spec.Operator.{Operator}
use Rattle.sg_kinds.specs.declared.marks.Shape.{Shape}
use Rattle.sg_kinds.specs.Specification.{args_of}
use Rattle.sg_kinds.specs.declared.marks.Shape.TheVariants.{Truths, Numbers, Texts, Lexemes, Ordinary, Optional, Listed, OptionalListed}
use Rattle.sg_kinds.specs.Completing.{all_made, completing_within}
use Rattle.sg_kinds.specs.Completing as term
use Rattle.sg_kinds.specs.Placeholder as held
use Rattle.sg_shapes.specs.Counts.{capped, count_of, look, total, over, one_element, completed, placeheld, next_counts, deepened, no_counts}

cap_sum : (a b : ℕ) → capped (capped a + capped b) ≡ capped (a + b)
cap_sum a b = omega arith

joined : (n : ℕ) (t : Term) (o : Option Terms) → option_map (λ ts. capped (n + nodes_of t + nodes_of_all ts)) o ≡ option_map (λ ts. capped (n + nodes_of_all ts)) (option_map (AndTerm t) o)
joined n t None = refl
joined n t (Some ts) = let e : n + nodes_of t + nodes_of_all ts ≡ n + (nodes_of t + nodes_of_all ts) = omega arith in ap (λ m. Some (capped m)) e

topped : (op : ℕ) (o : Option Terms) → option_map (λ ts. capped (1 + nodes_of_all ts)) o ≡ count_of (option_map (Node op 0 false) o)
topped op None = refl
topped op (Some ts) = let e : 1 + nodes_of_all ts ≡ suc (nodes_of_all ts) = omega arith in ap (λ m. Some (capped m)) e

paired : (nil pair : ℕ) (o : Option Term) → option_map (λ n. capped (2 + n)) (count_of o) ≡ count_of (option_map (λ t. Node pair 0 false (AndTerm t (AndTerm (Node nil 0 false NoTerm) NoTerm))) o)
paired nil pair None = refl
paired nil pair (Some t) = let e : capped (2 + capped (nodes_of t)) ≡ capped (suc (nodes_of t + (1 + 0))) = omega arith in ap Some e

-- counts that are those of some terms
module _ (spec : Spec) (made : ℕ → Option Term) (count : ℕ → Option ℕ) (agree : (q : ℕ) → count q ≡ count_of (made q)) where
  total_made : (n : ℕ) (ps : List ℕ) → total count (capped n) ps ≡ option_map (λ ts. capped (n + nodes_of_all ts)) (all_made made ps)
  total_made n [] = let e : n ≡ n + 0 = omega arith in ap (λ m. Some (capped m)) e
  total_made n (p ∷ ps) = ap (λ o. option_and_then (λ m. total count (capped (capped n + m)) ps) o) (agree p) ∙ by (made p) (λ t. total_made (n + nodes_of t) ps)
    where
      by : (o : Option Term) → ((t : Term) → total count (capped (n + nodes_of t)) ps ≡ option_map (λ ts. capped (n + nodes_of t + nodes_of_all ts)) (all_made made ps))
          → option_and_then (λ m. total count (capped (capped n + m)) ps) (count_of o) ≡ option_map (λ ts. capped (n + nodes_of_all ts)) (option_and_then (λ t. option_map (AndTerm t) (all_made made ps)) o)
      by None rest = refl
      by (Some t) rest = ap (λ m. total count m ps) (cap_sum n (nodes_of t)) ∙ rest t ∙ joined n t (all_made made ps)

  over_made : (op : Option ℕ) → over spec.ops count op ≡ count_of (term.over spec made op)
  over_made None = refl
  over_made (Some op) = total_made 1 (args_of spec.ops op) ∙ topped op (all_made made (args_of spec.ops op))

  one_made : (os : List ℕ) → one_element spec.ops count os ≡ count_of (term.one_element spec made os)
  one_made [] = refl
  one_made (nil ∷ []) = refl
  one_made (nil ∷ (pair ∷ os)) = by (slice_get (args_of spec.ops pair) 0)
    where
      by : (o : Option ℕ) → option_map (λ n. capped (2 + n)) (option_and_then count o) ≡ count_of (option_map (λ t. Node pair 0 false (AndTerm t (AndTerm (Node nil 0 false NoTerm) NoTerm))) (option_and_then made o))
      by None = refl
      by (Some e) = ap (option_map (λ n. capped (2 + n))) (agree e) ∙ paired nil pair (made e)

  pub completed_made : (p : ℕ) (os : List ℕ) (shape : Shape) → completed spec.ops count os shape ≡ count_of (term.completed spec made p os shape)
  completed_made p os Truths = refl
  completed_made p os Numbers = refl
  completed_made p os Texts = refl
  completed_made p os (Lexemes l) = refl
  completed_made p os Ordinary = over_made (slice_get os 0)
  completed_made p os Optional = over_made (slice_get os 0)
  completed_made p os Listed = one_made os
  completed_made p os OptionalListed = over_made (slice_get os 0)

  pub placeheld_made : (p : ℕ) (os : List ℕ) (shape : Shape) → placeheld spec.ops count os shape ≡ count_of (held.placeheld spec made p os shape)
  placeheld_made p os Optional = over_made (slice_get os 1)
  placeheld_made p os OptionalListed = one_made os
  placeheld_made p os Truths = refl
  placeheld_made p os Numbers = refl
  placeheld_made p os Texts = refl
  placeheld_made p os (Lexemes l) = refl
  placeheld_made p os Ordinary = over_made (slice_get os 0)
  placeheld_made p os Listed = one_made os

-- rounds from the inside and from the outside
pub deepened_none : (phyla : List Phylum) (ops : List Operator) (counts : List (Option ℕ)) → deepened phyla ops 0 counts ≡ counts
unfolding deepened
deepened_none phyla ops counts = refl

pub deepened_more : (phyla : List Phylum) (ops : List Operator) (depth : ℕ) (counts : List (Option ℕ)) → deepened phyla ops (suc depth) counts ≡ deepened phyla ops depth (next_counts phyla ops counts)
unfolding deepened
deepened_more phyla ops depth counts = refl

deepened_last : (phyla : List Phylum) (ops : List Operator) (depth : ℕ) (counts : List (Option ℕ)) → deepened phyla ops (suc depth) counts ≡ next_counts phyla ops (deepened phyla ops depth counts)
unfolding deepened
deepened_last phyla ops zero counts = refl
deepened_last phyla ops (suc depth) counts = deepened_last phyla ops depth (next_counts phyla ops counts)

look_map : (f : Phylum → Option ℕ) (phyla : List Phylum) (p : ℕ) → look (map f phyla) p ≡ option_and_then f (slice_get phyla p)
look_map f phyla p = ap (option_and_then (λ c. c)) (slice_get-map f phyla p) ∙ by (slice_get phyla p)
  where
    by : (o : Option Phylum) → option_and_then (λ c. c) (option_map f o) ≡ option_and_then f o
    by None = refl
    by (Some x) = refl

abbrev nothing : Option ℕ
nothing = None

none_there : (o : Option Phylum) → option_and_then (λ (x : Phylum). nothing) o ≡ nothing
none_there None = refl
none_there (Some x) = refl

-- the table after so many rounds has the counts of the completing terms that are at most so deep
pub counted : (spec : Spec) (depth : ℕ) (p : ℕ) → look (deepened spec.phyla spec.ops depth (no_counts spec.phyla)) p ≡ count_of (completing_within spec depth p)
counted spec zero p = ap (λ (t : List (Option ℕ)). look t p) (deepened_none spec.phyla spec.ops (no_counts spec.phyla)) ∙ look_map (λ _. nothing) spec.phyla p ∙ none_there (slice_get spec.phyla p)
counted spec (suc depth) p =
    ap (λ (t : List (Option ℕ)). look t p) (deepened_last spec.phyla spec.ops depth (no_counts spec.phyla))
    ∙ look_map (λ (x : Phylum). completed spec.ops (look (deepened spec.phyla spec.ops depth (no_counts spec.phyla))) x.ops x.shape) spec.phyla p
    ∙ by (slice_get spec.phyla p) (counted spec depth)
  where
    by : (o : Option Phylum) → ((q : ℕ) → look (deepened spec.phyla spec.ops depth (no_counts spec.phyla)) q ≡ count_of (completing_within spec depth q))
        → option_and_then (λ (x : Phylum). completed spec.ops (look (deepened spec.phyla spec.ops depth (no_counts spec.phyla))) x.ops x.shape) o
        ≡ count_of (option_and_then (λ (x : Phylum). term.completed spec (completing_within spec depth) p x.ops x.shape) o)
    by None agree = refl
    by (Some x) agree = completed_made spec (completing_within spec depth) (look (deepened spec.phyla spec.ops depth (no_counts spec.phyla))) agree p x.ops x.shape

-- a round that finds nothing new is the last
pub deepened_same : (phyla : List Phylum) (ops : List Operator) (depth : ℕ) (counts : List (Option ℕ)) → next_counts phyla ops counts ≡ counts → deepened phyla ops depth counts ≡ counts
unfolding deepened
deepened_same phyla ops zero counts e = refl
deepened_same phyla ops (suc depth) counts e = ap (deepened phyla ops depth) e ∙ deepened_same phyla ops depth counts e

-- a loop of rounds, of which so many are left
pub rounds_none : (phyla : List Phylum) (ops : List Operator) (depth : ℕ) (counts start : List (Option ℕ)) → counts ≡ start → deepened phyla ops (depth - 0) counts ≡ deepened phyla ops depth start
rounds_none phyla ops depth counts start e = let n : depth - 0 ≡ depth = omega arith in rw n (ap (deepened phyla ops depth) e)

pub rounds_more : (phyla : List Phylum) (ops : List Operator) (depth round : ℕ) (counts next : List (Option ℕ)) {whole : List (Option ℕ)} → round < depth → next ≡ next_counts phyla ops counts → deepened phyla ops (depth - round) counts ≡ whole
    → deepened phyla ops (depth - (round + 1)) next ≡ whole
rounds_more phyla ops depth round counts next low e so_far =
    let n : depth - round ≡ suc (depth - (round + 1)) = omega arith in
    ap (deepened phyla ops (depth - (round + 1))) e ∙ sym (deepened_more phyla ops (depth - (round + 1)) counts) ∙ ap (λ m. deepened phyla ops m counts) (sym n) ∙ so_far

pub rounds_same : (phyla : List Phylum) (ops : List Operator) (left : ℕ) (counts next : List (Option ℕ)) {whole : List (Option ℕ)} → next ≡ next_counts phyla ops counts → next ≡ counts → deepened phyla ops left counts ≡ whole → counts ≡ whole
rounds_same phyla ops left counts next e same so_far = sym (deepened_same phyla ops left counts (sym e ∙ same)) ∙ so_far

pub rounds_all : (phyla : List Phylum) (ops : List Operator) (depth round : ℕ) (counts : List (Option ℕ)) {whole : List (Option ℕ)} → depth ≤ round → deepened phyla ops (depth - round) counts ≡ whole → counts ≡ whole
rounds_all phyla ops depth round counts all so_far =
    let n : depth - round ≡ 0 = omega arith in sym (deepened_none phyla ops counts) ∙ ap (λ m. deepened phyla ops m counts) (sym n) ∙ so_far
