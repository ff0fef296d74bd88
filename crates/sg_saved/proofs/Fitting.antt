-- What fits has no misfit and is the value of its own file, and what has no misfit fits.
use Rattle.std.proofs.Common.{◌≡◌, ℕ, zero, suc, ◌+◌, ◌<◌, max, Bool, true, false, cond, List, [], ◌∷◌, ◌++◌, length, refl, sym, ap, ◌∙◌, subst, arith, Option, Some, None, option_map, unwrap_or, MatchOption, slice_get, map, length-append}
use Rattle.std.specs.Prelude.{bytes_eq}
use Rattle.std.proofs.lemmas.Slice.Eq.{bytes_eq-Decides}
use Rattle.sg_kinds.specs.Fits.{Fits, AllFit}
use Rattle.sg_kinds.specs.Plain.{plain, plain_all}
use Rattle.sg_kinds.specs.Sound.{HasNames, builtin_names}
use Rattle.sg_kinds.specs.Specification.{args_of, phylum_of}
use Rattle.sg_kinds.specs.Terms.{nodes_of, nodes_of_all, height_of, height_of_all}
use Rattle.sg_kinds.specs.Values.{Bytes, Value, Values, Truth, Number, Chars, Tree, Fault, NoValue, AndValue}
use Rattle.sg_kinds.specs.declared.spec.Function.{Function}
use Rattle.sg_kinds.specs.declared.spec.Operator.{Operator}
use Rattle.sg_kinds.specs.declared.spec.Spec.{Spec}
use Rattle.sg_saved_form.specs.Files as file
use Rattle.sg_saved_form.specs.Files.{Raw, Raws, Branch, Whole, Quote, Flag, NoRaw, AndRaw}
use Rattle.sg_saved_form.specs.Notes as note
use Rattle.sg_saved.specs.Spelling.{operator_name, raw_of, raws_of}
use Rattle.sg_saved.proofs.OneSpelling.{NodeFits, node-fits, one-operator, name-is, no-fault-held}
use Rattle.sg_saved.specs.Misfits.{op_named, args_named, value_of, values_of, Part, HeadFits, EachFits, parts_of, parts_of_all}

pub each-both : (spec : Spec) (xs ys : List Part) → EachFits spec (xs ++ ys) → EachFits spec xs × EachFits spec ys
each-both spec [] ys f = (tt, f)
each-both spec (x ∷ xs) ys f = let rest = each-both spec xs ys f.1 in ((f.0, rest.0), rest.1)

-- the operator of a name
record IsNamed (ops : List Operator) (op : ℕ) (name : Bytes) : Type 0 where
  operator : Operator
  found : slice_get ops op ≡ Some operator
  is : operator.name ≡ name

named-there : (ops : List Operator) (op : ℕ) (name : Bytes) → op_named ops name ≡ Some op → IsNamed ops op name
named-there [] op name is = absurd (cc)
named-there (o ∷ os) op name is = by (bytes_eq name o.name) refl (op_named os name) refl (λ k. named-there os k name) is
  where
    by : (t : Bool) → bytes_eq name o.name ≡ t → (r : Option ℕ) → op_named os name ≡ r → ((k : ℕ) → op_named os name ≡ Some k → IsNamed os k name) → cond t (Some 0) (option_map suc r) ≡ Some op → IsNamed (o ∷ os) op name
    by true e r rest more same =
        let zero_is : 0 ≡ op = cc in
        subst (λ k. IsNamed (o ∷ os) k name) zero_is (record { operator = o; found = refl; is = sym ((bytes_eq-Decides name o.name).0 e) })
    by false e None rest more same = absurd (cc)
    by false e (Some k) rest more same =
        let n = more k rest in
        let next : suc k ≡ op = cc in
        subst (λ k. IsNamed (o ∷ os) k name) next (record { operator = n.operator; found = n.found; is = n.is })

-- a term whose subterms all fit is the saved form of its value, which fits
module _ (spec : Spec) where
  pub record IsRead (p : ℕ) (r : Raw) : Type 0 where
    pub back : raw_of spec (value_of spec r) ≡ r
    pub fits : Fits spec (plain spec (value_of spec r) p) p
    pub nodes : (at : ℕ) → nodes_of (plain spec (value_of spec r) p) ≡ length (note.notes_of at r)
    pub depth : height_of (plain spec (value_of spec r) p) ≡ note.height_of r

  record AreRead (ps : List ℕ) (rs : Raws) : Type 0 where
    back : raws_of spec (values_of spec rs) ≡ rs
    fits : AllFit spec (plain_all spec (values_of spec rs) ps) ps
    nodes : (at : ℕ) → nodes_of_all (plain_all spec (values_of spec rs) ps) ≡ length (note.notes_of_all at rs)
    depth : height_of_all (plain_all spec (values_of spec rs) ps) ≡ note.height_of_all rs

  node-read : (p : ℕ) (name : Bytes) (rs : Raws) (o : Option ℕ) → op_named spec.ops name ≡ o → HeadFits spec p (Branch name rs)
      → ((ps : List ℕ) → ps ≡ args_named spec.ops name → length ps ≡ note.count_of rs → AreRead ps rs) → IsRead p (Branch name rs)
  node-read p name rs None is head kids = absurd (subst (λ x. MatchOption x ⊥ (λ op. (phylum_of spec.ops op ≡ Some p) × (length (args_of spec.ops op) ≡ note.count_of rs))) is head)
  node-read p name rs (Some op) is head kids =
      let h = subst (λ x. MatchOption x ⊥ (λ k. (phylum_of spec.ops k ≡ Some p) × (length (args_of spec.ops k) ≡ note.count_of rs))) is head in
      let n = named-there spec.ops op name is in
      let args : args_of spec.ops op ≡ args_named spec.ops name = sym (ap (λ o. unwrap_or (option_map (args_of spec.ops) o) []) is) in
      let all = kids (args_of spec.ops op) args h.1 in
      let op_is : unwrap_or (op_named spec.ops name) 0 ≡ op = ap (λ o. unwrap_or o 0) is in
      let own : n.operator.args ≡ args_of spec.ops op = sym (ap (λ o. unwrap_or (option_map (λ (x : Operator). x.args) o) []) n.found) in
      let phyla : Some n.operator.phylum ≡ Some p = sym (ap (option_map (λ (x : Operator). x.phylum)) n.found) ∙ h.0 in
      let phylum : n.operator.phylum ≡ p = cc in
      let vs = values_of spec rs in
      record {
        back = (λ i. Branch ((ap (operator_name spec.ops) op_is ∙ ap (λ o. unwrap_or (option_map (λ (x : Operator). x.name) o) []) n.found ∙ n.is) i) (all.back i));
        fits = subst (λ k. Fits spec (plain spec (Tree k vs) p) p) (sym op_is)
            (subst (λ o. MatchOption o ⊥ (λ (x : Operator). (x.phylum ≡ p) × (0 < 16) × AllFit spec (plain_all spec vs (args_of spec.ops op)) x.args)) (sym n.found) (phylum, omega arith, subst (AllFit spec (plain_all spec vs (args_of spec.ops op))) (sym own) all.fits));
        nodes = λ at. ap (λ k. suc (nodes_of_all (plain_all spec vs (args_of spec.ops k)))) op_is ∙ ap suc (all.nodes (at + length name + 1));
        depth = ap (λ k. suc (height_of_all (plain_all spec vs (args_of spec.ops k)))) op_is ∙ ap suc all.depth;
      }

  mutual
    pub fits-read : (r : Raw) (p at : ℕ) → EachFits spec (parts_of spec p at r) → IsRead p r
    fits-read (Branch name rs) p at f = node-read p name rs (op_named spec.ops name) refl f.0 (λ ps is len. all-read rs ps (at + length name + 1) len (subst (λ qs. EachFits spec (parts_of_all spec qs (at + length name + 1) rs)) (sym is) f.1))
    fits-read (Whole z) p at f = record { back = refl; fits = (refl, f.0); nodes = λ n. refl; depth = refl }
    fits-read (Quote s) p at f = record { back = refl; fits = (refl, f.0); nodes = λ n. refl; depth = refl }
    fits-read (Flag b) p at f = record { back = refl; fits = (refl, f.0); nodes = λ n. refl; depth = refl }

    all-read : (rs : Raws) (ps : List ℕ) (at : ℕ) → length ps ≡ note.count_of rs → EachFits spec (parts_of_all spec ps at rs) → AreRead ps rs
    all-read NoRaw [] at len f = record { back = refl; fits = tt; nodes = λ n. refl; depth = refl }
    all-read NoRaw (p ∷ ps) at len f = absurd (omega arith)
    all-read (AndRaw r rs) [] at len f = absurd (omega arith)
    all-read (AndRaw r rs) (p ∷ ps) at len f =
        let b = each-both spec (parts_of spec p at r) (parts_of_all spec ps (at + length (file.spelled r) + 1) rs) f in
        let first = fits-read r p at b.0 in
        let rest = all-read rs ps (at + length (file.spelled r) + 1) (omega arith) b.1 in
        record {
          back = (λ i. AndRaw (first.back i) (rest.back i));
          fits = (first.fits, rest.fits);
          nodes = λ n. (λ i. first.nodes n i + rest.nodes (n + length (file.spelled r) + 1) i) ∙ sym (length-append (note.notes_of n r) (note.notes_of_all (n + length (file.spelled r) + 1) rs));
          depth = (λ i. max (first.depth i) (rest.depth i));
        }

-- a name that is there is found
named-found : (ops : List Operator) (i : ℕ) (o : Operator) → slice_get ops i ≡ Some o → (k : ℕ) × (op_named ops o.name ≡ Some k)
named-found [] i o at = absurd (cc)
named-found (q ∷ qs) zero o at =
    let same : q ≡ o = cc in
    (0, ap (λ t. cond t (Some 0) (option_map suc (op_named qs o.name))) ((bytes_eq-Decides o.name q.name).1 (ap (λ x. x.name) (sym same))))
named-found (q ∷ qs) (suc i) o at = by (bytes_eq o.name q.name) refl (named-found qs i o at)
  where
    by : (t : Bool) → bytes_eq o.name q.name ≡ t → (k : ℕ) × (op_named qs o.name ≡ Some k) → (k : ℕ) × (op_named (q ∷ qs) o.name ≡ Some k)
    by true e rest = (0, ap (λ t. cond t (Some 0) (option_map suc (op_named qs o.name))) e)
    by false e rest = (suc rest.0, ap (λ t. cond t (Some 0) (option_map suc (op_named qs o.name))) e ∙ ap (option_map suc) rest.1)

-- a value that fits is that of its own file, where each subterm fits
module _ (spec : Spec) (names : HasNames spec) where
  there-named : (op : ℕ) (o : Operator) → slice_get spec.ops op ≡ Some o → op_named spec.ops (operator_name spec.ops op) ≡ Some op
  there-named op o found =
      let k = named-found spec.ops op o found in
      let n = named-there spec.ops k.0 o.name k.1 in
      let same = one-operator spec.ops (map (λ (x : Function). x.name) spec.functions ++ builtin_names) names.callables k.0 op n.operator o n.found found n.is in
      ap (op_named spec.ops) (name-is spec.ops op o found) ∙ k.1 ∙ ap Some same

  pub record IsWritten (p : ℕ) (v : Value) : Type 0 where
    pub again : value_of spec (raw_of spec v) ≡ v
    pub fit : (at : ℕ) → EachFits spec (parts_of spec p at (raw_of spec v))

  record AreWritten (ps : List ℕ) (vs : Values) : Type 0 where
    pub again : values_of spec (raws_of spec vs) ≡ vs
    pub count : length ps ≡ note.count_of (raws_of spec vs)
    pub fit : (at : ℕ) → EachFits spec (parts_of_all spec ps at (raws_of spec vs))

  fit-both : (xs ys : List Part) → EachFits spec xs → EachFits spec ys → EachFits spec (xs ++ ys)
  fit-both [] ys f g = g
  fit-both (x ∷ xs) ys f g = (f.0, fit-both xs ys f.1 g)

  node-written : (op p : ℕ) (vs : Values) (m : NodeFits spec op p vs) → AreWritten m.operator.args vs → IsWritten p (Tree op vs)
  node-written op p vs m kids =
      let name = operator_name spec.ops op in
      let there : op_named spec.ops name ≡ Some op = there-named op m.operator m.found in
      let args : args_of spec.ops op ≡ m.operator.args = ap (λ o. unwrap_or (option_map (λ (x : Operator). x.args) o) []) m.found in
      let named : m.operator.args ≡ args_named spec.ops name = sym (ap (λ o. unwrap_or (option_map (args_of spec.ops) o) []) there ∙ args) in
      record {
        again = (λ i. Tree (ap (λ o. unwrap_or o 0) there i) (kids.again i));
        fit = λ at. (
          subst (λ x. MatchOption x ⊥ (λ k. (phylum_of spec.ops k ≡ Some p) × (length (args_of spec.ops k) ≡ note.count_of (raws_of spec vs)))) (sym there) (ap (option_map (λ (x : Operator). x.phylum)) m.found ∙ ap Some m.phylum, ap length args ∙ kids.count),
          subst (λ qs. EachFits spec (parts_of_all spec qs (at + length name + 1) (raws_of spec vs))) named (kids.fit (at + length name + 1)),
        );
      }

  mutual
    pub fits-written : (v : Value) (p : ℕ) → Fits spec (plain spec v p) p → IsWritten p v
    fits-written (Truth b) p f = record { again = refl; fit = λ at. (f.1, tt) }
    fits-written (Number z) p f = record { again = refl; fit = λ at. (f.1, tt) }
    fits-written (Chars s) p f = record { again = refl; fit = λ at. (f.1, tt) }
    fits-written (Fault kind) p f = absurd (no-fault-held spec (slice_get spec.phyla p) kind f.1)
    fits-written (Tree op vs) p f = let m = node-fits spec op p vs f in node-written op p vs m (all-written vs m.operator.args m.kids)

    all-written : (vs : Values) (ps : List ℕ) → AllFit spec (plain_all spec vs ps) ps → AreWritten ps vs
    all-written NoValue [] f = record { again = refl; count = refl; fit = λ at. tt }
    all-written NoValue (p ∷ ps) f = absurd f
    all-written (AndValue v vs) [] f = absurd f
    all-written (AndValue v vs) (p ∷ ps) f =
        let first = fits-written v p f.0 in
        let rest = all-written vs ps f.1 in
        record {
          again = (λ i. AndValue (first.again i) (rest.again i));
          count = ap suc rest.count;
          fit = λ at. fit-both (parts_of spec p at (raw_of spec v)) (parts_of_all spec ps (at + length (file.spelled (raw_of spec v)) + 1) (raws_of spec vs)) (first.fit at) (rest.fit (at + length (file.spelled (raw_of spec v)) + 1));
        }
