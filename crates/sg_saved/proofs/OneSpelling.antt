-- What is written of a value that fits is a file, and no other such value's.
use Rattle.std.proofs.Common.{◌≡◌, ℕ, ◌<◌, true, List, [], ◌∷◌, ◌++◌, length, map, get_or, slice_get, refl, sym, ap, ◌∙◌, subst, arith, inl, inr, Option, Some, None, option_map, unwrap_or, MatchOption, length-append}
use Rattle.std.proofs.lemmas.Bool.{cases_order}
use Rattle.std.proofs.lemmas.List.{length-map}
use Rattle.std.proofs.lemmas.Option.{slice_get_within, slice_get-map, get_or_from_slice_get}
use Rattle.std.proofs.Math.ListN.{get_or-append}
use Rattle.sg_kinds.specs.Fits.{Fits, AllFit, MayHold}
use Rattle.sg_kinds.specs.Plain.{plain, plain_all}
use Rattle.sg_kinds.specs.Sound.{HasNames, AreDistinct, builtin_names}
use Rattle.sg_kinds.specs.Specification.{args_of}
use Rattle.sg_kinds.specs.Values.{Bytes, Value, Values, Truth, Number, Chars, Tree, Fault, NoValue, AndValue, is_number, is_text}
use Rattle.sg_kinds.specs.declared.marks.FaultKind.{FaultKind}
use Rattle.sg_kinds.specs.declared.marks.Shape.{Shape}
use Rattle.sg_kinds.specs.declared.marks.Shape.TheVariants.{Truths, Numbers, Texts, Lexemes, Ordinary, Optional, Listed, OptionalListed}
use Rattle.sg_kinds.specs.declared.spec.Function.{Function}
use Rattle.sg_kinds.specs.declared.spec.Operator.{Operator}
use Rattle.sg_kinds.specs.declared.spec.Phylum.{Phylum}
use Rattle.sg_kinds.specs.declared.spec.Spec.{Spec}
use Rattle.sg_saved_form.specs.Files.{IsRaw, AreRaw, IsFile, IsOperatorName}
use Rattle.sg_saved_form.proofs.Forms.{one-file}
use Rattle.sg_saved.specs.Spelling.{operator_name, raw_of, raws_of, saved, AreNamed}

-- what a leaf may hold
abbrev IsHeld : Spec → Option Phylum → Value → Type 0
IsHeld spec o v = MatchOption o ⊥ (λ x. MayHold spec x.shape v)

no-fault : (spec : Spec) (s : Shape) (kind : FaultKind) → MayHold spec s (Fault kind) → ⊥
no-fault spec Truths kind may = may
no-fault spec Numbers kind may = may
no-fault spec Texts kind may = may
no-fault spec (Lexemes l) kind may = may
no-fault spec Ordinary kind may = may
no-fault spec Optional kind may = may
no-fault spec Listed kind may = may
no-fault spec OptionalListed kind may = may

pub no-fault-held : (spec : Spec) (o : Option Phylum) (kind : FaultKind) → IsHeld spec o (Fault kind) → ⊥
no-fault-held spec None kind may = may
no-fault-held spec (Some x) kind may = no-fault spec x.shape kind may

number-may : (spec : Spec) (s : Shape) (z : _) → MayHold spec s (Number z) → is_number z ≡ true
number-may spec Truths z may = absurd may
number-may spec Numbers z may = may
number-may spec Texts z may = absurd may
number-may spec (Lexemes l) z may = absurd may
number-may spec Ordinary z may = absurd may
number-may spec Optional z may = absurd may
number-may spec Listed z may = absurd may
number-may spec OptionalListed z may = absurd may

number-held : (spec : Spec) (o : Option Phylum) (z : _) → IsHeld spec o (Number z) → is_number z ≡ true
number-held spec None z may = absurd may
number-held spec (Some x) z may = number-may spec x.shape z may

text-may : (spec : Spec) (s : Shape) (t : Bytes) → MayHold spec s (Chars t) → is_text t ≡ true
text-may spec Truths t may = absurd may
text-may spec Numbers t may = absurd may
text-may spec Texts t may = may
text-may spec (Lexemes l) t may = may.0
text-may spec Ordinary t may = absurd may
text-may spec Optional t may = absurd may
text-may spec Listed t may = absurd may
text-may spec OptionalListed t may = absurd may

text-held : (spec : Spec) (o : Option Phylum) (t : Bytes) → IsHeld spec o (Chars t) → is_text t ≡ true
text-held spec None t may = absurd may
text-held spec (Some x) t may = text-may spec x.shape t may

-- a node that fits has an operator, whose arguments its children fit
pub record NodeFits (spec : Spec) (op p : ℕ) (vs : Values) : Type 0 where
  pub operator : Operator
  pub found : slice_get spec.ops op ≡ Some operator
  pub phylum : operator.phylum ≡ p
  pub kids : AllFit spec (plain_all spec vs operator.args) operator.args

pub node-fits : (spec : Spec) (op p : ℕ) (vs : Values) → Fits spec (plain spec (Tree op vs) p) p → NodeFits spec op p vs
node-fits spec op p vs fits = by (slice_get spec.ops op) refl fits
  where
    by : (o : Option Operator) → slice_get spec.ops op ≡ o → MatchOption o ⊥ (λ x. (x.phylum ≡ p) × (0 < 16) × AllFit spec (plain_all spec vs (args_of spec.ops op)) x.args) → NodeFits spec op p vs
    by None found f = absurd f
    by (Some x) found f =
        let args : args_of spec.ops op ≡ x.args = ap (λ o. unwrap_or (option_map (λ (y : Operator). y.args) o) []) found in
        record { operator = x; found = found; phylum = f.0; kids = subst (λ ps. AllFit spec (plain_all spec vs ps) x.args) args f.2 }

-- an operator is told by its name
name-at : (ops : List Operator) (others : List Bytes) (i : ℕ) (o : Operator) → slice_get ops i ≡ Some o → get_or (map (λ (x : Operator). x.name) ops ++ others) i [] ≡ o.name
name-at ops others i o found =
    let within : i < length ops = slice_get_within ops i o found in
    get_or-append (map (λ (x : Operator). x.name) ops) others [] i (omega (arith, length-map ops (λ (x : Operator). x.name)))
    ∙ get_or_from_slice_get (map (λ (x : Operator). x.name) ops) i o.name [] (slice_get-map (λ (x : Operator). x.name) ops i ∙ ap (option_map (λ (x : Operator). x.name)) found)

pub one-operator : (ops : List Operator) (others : List Bytes) → AreDistinct (map (λ (x : Operator). x.name) ops ++ others) → (i j : ℕ) (o q : Operator) → slice_get ops i ≡ Some o → slice_get ops j ≡ Some q → o.name ≡ q.name → i ≡ j
one-operator ops others distinct i j o q at-i at-j same = elim (cases_order i j) [
  | inl is ↦ is
  | inr other ↦ elim other [
    | inl less ↦ absurd (distinct i j [] less (within j q at-j) (name-at ops others i o at-i ∙ same ∙ sym (name-at ops others j q at-j)))
    | inr more ↦ absurd (distinct j i [] more (within i o at-i) (name-at ops others j q at-j ∙ sym same ∙ sym (name-at ops others i o at-i)))
  ]
]
  where
    within : (k : ℕ) (x : Operator) → slice_get ops k ≡ Some x → k < length (map (λ (x : Operator). x.name) ops ++ others)
    within k x found =
        let low : k < length ops = slice_get_within ops k x found in
        omega (arith, length-append (map (λ (x : Operator). x.name) ops) others, length-map ops (λ (x : Operator). x.name))

pub name-is : (ops : List Operator) (op : ℕ) (o : Operator) → slice_get ops op ≡ Some o → operator_name ops op ≡ o.name
name-is ops op o found = ap (λ x. unwrap_or (option_map (λ (y : Operator). y.name) x) []) found

module _ (spec : Spec) where
  -- one value of one spelling
  module _ (names : HasNames spec) where
    same-operator : (op oq p q : ℕ) (vs ws : Values) → NodeFits spec op p vs → NodeFits spec oq q ws → operator_name spec.ops op ≡ operator_name spec.ops oq → op ≡ oq
    same-operator op oq p q vs ws f g same =
        one-operator spec.ops (map (λ (x : Function). x.name) spec.functions ++ builtin_names) names.callables op oq f.operator g.operator f.found g.found
        (sym (name-is spec.ops op f.operator f.found) ∙ same ∙ name-is spec.ops oq g.operator g.found)

    same-args : (op oq p q : ℕ) (vs ws : Values) (f : NodeFits spec op p vs) (g : NodeFits spec oq q ws) → op ≡ oq → g.operator.args ≡ f.operator.args
    same-args op oq p q vs ws f g same =
        let both : Some g.operator ≡ Some f.operator = sym g.found ∙ ap (slice_get spec.ops) (sym same) ∙ f.found in
        let is : g.operator ≡ f.operator = cc in
        ap (λ o. o.args) is

    mutual
      pub one-value : (v w : Value) (p : ℕ) → Fits spec (plain spec v p) p → Fits spec (plain spec w p) p → raw_of spec v ≡ raw_of spec w → v ≡ w
      one-value (Truth a) (Truth b) p f g e = cc
      one-value (Truth a) w p f g e = absurd (cc)
      one-value (Number y) (Number z) p f g e = cc
      one-value (Number y) w p f g e = absurd (cc)
      one-value (Chars s) (Chars t) p f g e = cc
      one-value (Chars s) (Fault kind) p f g e = absurd (no-fault-held spec (slice_get spec.phyla p) kind g.1)
      one-value (Chars s) w p f g e = absurd (cc)
      one-value (Fault kind) w p f g e = absurd (no-fault-held spec (slice_get spec.phyla p) kind f.1)
      one-value (Tree op vs) (Tree oq ws) p f g e =
          let m = node-fits spec op p vs f in
          let n = node-fits spec oq p ws g in
          let name : operator_name spec.ops op ≡ operator_name spec.ops oq = cc in
          let rows : raws_of spec vs ≡ raws_of spec ws = cc in
          let same = same-operator op oq p p vs ws m n name in
          let args = same-args op oq p p vs ws m n same in
          let kids = one-row vs ws m.operator.args m.kids (subst (λ ps. AllFit spec (plain_all spec ws ps) ps) args n.kids) rows in
          (λ i. Tree (same i) (kids i))
      one-value (Tree op vs) w p f g e = absurd (cc)

      one-row : (vs ws : Values) (ps : List ℕ) → AllFit spec (plain_all spec vs ps) ps → AllFit spec (plain_all spec ws ps) ps → raws_of spec vs ≡ raws_of spec ws → vs ≡ ws
      one-row NoValue NoValue ps f g e = refl
      one-row NoValue (AndValue w ws) ps f g e = absurd (cc)
      one-row (AndValue v vs) NoValue ps f g e = absurd (cc)
      one-row (AndValue v vs) (AndValue w ws) [] f g e = absurd f
      one-row (AndValue v vs) (AndValue w ws) (p ∷ ps) f g e =
          let first : raw_of spec v ≡ raw_of spec w = cc in
          let rest : raws_of spec vs ≡ raws_of spec ws = cc in
          (λ i. AndValue (one-value v w p f.0 g.0 first i) (one-row vs ws ps f.1 g.1 rest i))

  -- a value that fits is written as a term of a file
  module _ (named : AreNamed spec) where
    mutual
      pub raw-is : (v : Value) (p : ℕ) → Fits spec (plain spec v p) p → IsRaw (raw_of spec v)
      raw-is (Truth a) p f = tt
      raw-is (Number z) p f = number-held spec (slice_get spec.phyla p) z f.1
      raw-is (Chars s) p f = text-held spec (slice_get spec.phyla p) s f.1
      raw-is (Fault kind) p f = absurd (no-fault-held spec (slice_get spec.phyla p) kind f.1)
      raw-is (Tree op vs) p f =
          let m = node-fits spec op p vs f in
          (subst IsOperatorName (sym (name-is spec.ops op m.operator m.found)) (named op m.operator m.found), row-is vs m.operator.args m.kids)

      row-is : (vs : Values) (ps : List ℕ) → AllFit spec (plain_all spec vs ps) ps → AreRaw (raws_of spec vs)
      row-is NoValue ps f = tt
      row-is (AndValue v vs) [] f = absurd f
      row-is (AndValue v vs) (p ∷ ps) f = (raw-is v p f.0, row-is vs ps f.1)

    pub written-file : (v : Value) (p : ℕ) → Fits spec (plain spec v p) p → IsFile (saved spec v)
    written-file v p f = record { raw = raw_of spec v; is = raw-is v p f; same = refl }

  pub one-spelling : HasNames spec → AreNamed spec → (v w : Value) (p : ℕ) → Fits spec (plain spec v p) p → Fits spec (plain spec w p) p → saved spec v ≡ saved spec w → v ≡ w
  one-spelling names named v w p f g same =
      one-value names v w p f g (one-file (raw_of spec v) (raw_of spec w) (raw-is named v p f) (raw-is named w p g) same)
