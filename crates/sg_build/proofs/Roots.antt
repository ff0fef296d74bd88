-- Roots that hold the children of a term that fits.
use Rattle.std.specs.Prelude.{◌≡◌, refl, ℕ, zero, suc, ◌<◌, Bool, List, [], ◌∷◌, ◌++◌, length, Option, Some, None, slice_get, option_map, unwrap_or, MatchOption}
use Rattle.std.proofs.Common.{sym, ap, ◌∙◌, subst, arith, get_or}
use Rattle.std.proofs.lemmas.Option.{none-some, same_Some, slice_get_within}
use Rattle.sg_kinds.specs.Fits.{Fits, AllFit}
use Rattle.sg_kinds.specs.Specification.{args_of}
use Rattle.sg_kinds.specs.Terms.{Term, Terms, Leaf, Node, NoTerm, AndTerm, kids_of}
use Rattle.sg_kinds.specs.declared.spec.Operator.{Operator}
use Rattle.sg_kinds.specs.declared.spec.Spec.{Spec}
use Rattle.sg_forest.specs.declared.node_id.NodeId.{NodeId}
use Rattle.sg_forest.specs.Node as forest
use Rattle.sg_forest.specs.Trees.{IsRoot}
use Rattle.sg_groves.specs.declared.kind.Kind.{Kind}
use Rattle.sg_groves.specs.declared.part.Part.{Part}
use Rattle.sg_groves.specs.Grove.{Grove, nodes, IsGrove}
use Rattle.sg_groves.specs.Holds.{Holds}
use Rattle.sg_groves.proofs.Held.{held_fits}
use Rattle.sg_terms.specs.Kept.{AllHold, AreRootsOf, KeepsTerms}

-- a term fits one phylum
pub one_phylum : (spec : Spec) (t : Term) (p q : ℕ) → Fits spec t p → Fits spec t q → p ≡ q
one_phylum spec (Leaf r v) p q one two = sym one.0 ∙ two.0
one_phylum spec (Node op scheme elided ts) p q one two = by (slice_get spec.ops op) one two
  where
    by : (o : Option Operator) → MatchOption o ⊥ (λ (x : Operator). (x.phylum ≡ p) × (scheme < 16) × AllFit spec ts x.args) → MatchOption o ⊥ (λ (x : Operator). (x.phylum ≡ q) × (scheme < 16) × AllFit spec ts x.args) → p ≡ q
    by None f g = absurd f
    by (Some x) f g = sym f.0 ∙ g.0

-- the facts of a node that fits
pub record IsOperator (spec : Spec) (op scheme : ℕ) (ts : Terms) : Type 0 where
  pub within : op < length spec.ops
  pub low : scheme < 16
  pub fit : AllFit spec ts (args_of spec.ops op)

-- one child more
pub hold_more : (g : Grove) (ids : List NodeId) (ts : List Term) (n : NodeId) (t : Term) → AllHold g ids (kids_of ts) → Holds g n t → AllHold g (ids ++ n ∷ []) (kids_of (ts ++ t ∷ []))
hold_more g [] [] n t all h = (h, tt)
hold_more g [] (s ∷ ts) n t all h = absurd all
hold_more g (id ∷ ids) [] n t all h = absurd all
hold_more g (id ∷ ids) (s ∷ ts) n t all h = (all.0, hold_more g ids ts n t all.1 h)

pub hold_still : (old new : Grove) → KeepsTerms old new → (ids : List NodeId) (ts : Terms) → AllHold old ids ts → AllHold new ids ts
hold_still old new keeps [] NoTerm all = tt
hold_still old new keeps [] (AndTerm t ts) all = absurd all
hold_still old new keeps (id ∷ ids) NoTerm all = absurd all
hold_still old new keeps (id ∷ ids) (AndTerm t ts) all = (keeps id t all.0, hold_still old new keeps ids ts all.1)

-- a child fits some phylum
pub kid_fits : (spec : Spec) (ts : List Term) (ps : List ℕ) (i : ℕ) (d : Term) → AllFit spec (kids_of ts) ps → i < length ts → (p : ℕ) × Fits spec (get_or ts i d) p
kid_fits spec [] ps i d fit low = absurd (omega (arith, low))
kid_fits spec (t ∷ ts) [] i d fit low = absurd fit
kid_fits spec (t ∷ ts) (p ∷ ps) zero d fit low = (p, fit.0)
kid_fits spec (t ∷ ts) (p ∷ ps) (suc i) d fit low = kid_fits spec ts ps i d fit.1 (omega (arith, low))

-- as many roots as argument phyla, each of its phylum
pub as_many : (g : Grove) (spec : Spec) (ids : List NodeId) (ts : Terms) (ps : List ℕ) → AllHold g ids ts → AllFit spec ts ps → length ids ≡ length ps
as_many g spec [] NoTerm [] all fit = refl
as_many g spec [] NoTerm (p ∷ ps) all fit = absurd fit
as_many g spec [] (AndTerm t ts) ps all fit = absurd all
as_many g spec (id ∷ ids) NoTerm ps all fit = absurd all
as_many g spec (id ∷ ids) (AndTerm t ts) [] all fit = absurd fit
as_many g spec (id ∷ ids) (AndTerm t ts) (p ∷ ps) all fit = ap suc (as_many g spec ids ts ps all.1 fit.1)

phylum_at : (g : Grove) → IsGrove g → (ids : List NodeId) (ts : Terms) (ps : List ℕ) → AllHold g ids ts → AllFit g.spec ts ps → (k : ℕ) (id : NodeId) (x : forest.Node Kind Part) → slice_get ids k ≡ Some id → nodes g id ≡ Some x → slice_get ps k ≡ Some x.label.phylum
phylum_at g is [] ts ps all fit k id x at found = absurd (none-some id at)
phylum_at g is (n ∷ ids) NoTerm ps all fit k id x at found = absurd all
phylum_at g is (n ∷ ids) (AndTerm t ts) [] all fit k id x at found = absurd fit
phylum_at g is (n ∷ ids) (AndTerm t ts) (p ∷ ps) all fit zero id x at found =
    let here : nodes g n ≡ Some x = ap (nodes g) (same_Some n id at) ∙ found in
    ap Some (one_phylum g.spec t p x.label.phylum fit.0 (held_fits g is n x t here all.0))
phylum_at g is (n ∷ ids) (AndTerm t ts) (p ∷ ps) all fit (suc k) id x at found = phylum_at g is ids ts ps all.1 fit.1 k id x at found

pub are_roots : (g : Grove) → IsGrove g → (ids : List NodeId) (ts : Terms) (ps : List ℕ) → AllHold g ids ts → AllFit g.spec ts ps → ((k : ℕ) (id : NodeId) → slice_get ids k ≡ Some id → IsRoot (nodes g) id) → AreRootsOf g ps ids
are_roots g is ids ts ps all fit tops k id at = let root = tops k id at in (root, phylum_at g is ids ts ps all fit k id root.node at root.found)

pub is_operator : (spec : Spec) (op scheme p : ℕ) (ts : Terms) (elided : Bool) → Fits spec (Node op scheme elided ts) p → IsOperator spec op scheme ts
is_operator spec op scheme p ts elided fits = by (slice_get spec.ops op) refl fits
  where
    by : (o : Option Operator) → slice_get spec.ops op ≡ o → MatchOption o ⊥ (λ (x : Operator). (x.phylum ≡ p) × (scheme < 16) × AllFit spec ts x.args) → IsOperator spec op scheme ts
    by None at f = absurd f
    by (Some x) at f = record {
      within = slice_get_within spec.ops op x at;
      low = f.1;
      fit = subst (AllFit spec ts) (sym (ap (λ o. unwrap_or (option_map (λ (y : Operator). y.args) o) []) at)) f.2;
    }
