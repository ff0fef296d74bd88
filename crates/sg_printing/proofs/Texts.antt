-- The text of an attribute of a node.
use Rattle.std.specs.Prelude.{◌≡◌, ℕ, ◌<◌, List, [], length, Option, Some, None, IsSome, slice_get, option_map, option_and_then, unwrap_or}
use Rattle.std.specs.Slice.{IsItemAt}
use Rattle.std.proofs.Common.{sym, ap, ◌∙◌, subst, Bor}
use Rattle.std.proofs.lemmas.Option.{slice_get_past, slice_get_within}
use Rattle.sg_kinds.specs.Values.{Bytes, Value}
use Rattle.sg_kinds.specs.Terms.{Term}
use Rattle.sg_kinds.specs.Places.{Place}
use Rattle.sg_kinds.specs.Evaluation.{untyped}
use Rattle.sg_kinds.specs.Fits.{Fits}
use Rattle.sg_kinds.specs.FromScratch.{value_in}
use Rattle.sg_kinds.specs.Specification.{attrs_of}
use Rattle.sg_kinds.specs.declared.spec.Attr.{Attr}
use Rattle.sg_kinds.proofs.Elementary.{slice_get-there}
use Rattle.sg_pool.specs.Pools.{value_at}
use Rattle.sg_forest.specs.declared.node_id.NodeId.{NodeId}
use Rattle.sg_groves.specs.Grove.{Grove, IsGrove}
use Rattle.sg_groves.specs.Stored.{number_at}
use Rattle.sg_plans.proofs.Nodes.{fitting_phylum}
use Rattle.sg_printing.specs.At.{IsAt}
use Rattle.sg_printing.specs.Printed.{saved_text, printed}
use Rattle.sg_printing.specs.Shown.{attributes, text_at}
use Rattle.sg_printing.specs.declared.printed.Form.{Form}
use Rattle.sg_printing.specs.declared.printed.Form.TheVariants.{Saved}
use Rattle.sg_printing.proofs.Right.{IsKept}
use Rattle.sg_printing.proofs.Kept.{its_kept}

-- nothing stands at a place where nothing was read
pub past : (xs : List Attr) (slot : ℕ) (o : Option (Bor Attr)) → IsItemAt xs slot o → o ≡ None → slice_get xs slot ≡ None
past xs slot o at is = let l = subst (IsItemAt xs slot) is at in slice_get_past xs slot l.3

module _ (g : Grove) (is : IsGrove g) (root n : NodeId) (t : Term) (u : Place) (x : Term) (at : IsAt g root n t u x) (p : ℕ) (fits : Fits g.spec x p) (slot : ℕ) where
  abbrev value : Value
  value = value_in g.spec t (record { node = u; slot = slot })

  -- the attributes of its phylum are those of the node
  its_attr : slice_get (attributes g.spec x) slot ≡ slice_get (attrs_of g.spec.phyla p) slot
  its_attr = ap (λ o. slice_get (unwrap_or (option_map (attrs_of g.spec.phyla) o) []) slot) (fitting_phylum g.spec x p fits)

  its_text : (form : Form) (o : Option Attr) → slice_get (attrs_of g.spec.phyla p) slot ≡ o → text_at g.spec form t u slot x ≡ option_and_then (λ (a : Attr). printed form g.spec a.of value) o
  its_text form o found = ap (option_and_then (λ (a : Attr). printed form g.spec a.of value)) (its_attr ∙ found)

  -- there is no such attribute
  pub text_none : (form : Form) → slice_get (attrs_of g.spec.phyla p) slot ≡ None → None ≡ text_at g.spec form t u slot x
  text_none form none = sym (its_text form None none)

  -- a value is kept for one, and its text is the one that is told
  module _ (a : Attr) (found : slice_get (attrs_of g.spec.phyla p) slot ≡ Some a) where
    own : IsKept g n t u slot
    own = its_kept g is root n t u x at p slot fits (slice_get_within (attrs_of g.spec.phyla p) slot a found)

    pub has_number : IsSome (number_at g n slot)
    has_number = own.number

    own_value : (id : ℕ) → number_at g n slot ≡ Some id → value_at g.pool id ≡ value
    own_value id number = sym (ap (λ o. unwrap_or (option_map (value_at g.pool) o) untyped) number) ∙ own.value

    pub text_some : (form : Form) (id : ℕ) → number_at g n slot ≡ Some id → (o : Option Bytes) → o ≡ printed form g.spec a.of (value_at g.pool id) → o ≡ text_at g.spec form t u slot x
    text_some form id number o told = told ∙ ap (printed form g.spec a.of) (own_value id number) ∙ sym (its_text form (Some a) found)

  -- in the form of saved files each attribute has a text
  pub has_text : slot < length (attrs_of g.spec.phyla p) → text_at g.spec Saved t u slot x ≡ Some (saved_text g.spec value)
  has_text low = let a = slice_get-there (attrs_of g.spec.phyla p) slot low in its_text Saved (Some a.0) a.1
