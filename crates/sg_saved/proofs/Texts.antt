-- What the bytes of a note's subterm say of it.
use Rattle.std.proofs.Common.{◌≡◌, ℕ, suc, ℤ, eqb-true, ◌==◌, ◌+◌, ◌-◌, ◌<◌, ◌≤◌, Bool, true, false, cond, List, [], ◌∷◌, ◌++◌, length, drop, take, slice_range, refl, sym, ap, ◌∙◌, arith, append_assoc, length-append, Option, Some, None, option_map}
use Rattle.std.specs.Prelude.{bytes_eq}
use Rattle.std.specs.List.{position_from}
use Rattle.std.proofs.lemmas.List.{take_at, length-drop}
use Rattle.std.proofs.lemmas.Iterator.Adapters.{position_from-zero}
use Rattle.sg_kinds.specs.Values.{Bytes, Truth, Number, Chars}
use Rattle.sg_kinds.specs.declared.spec.Operator.{Operator}
use Rattle.sg_kinds.specs.declared.spec.Spec.{Spec}
use Rattle.sg_text.specs.Bytes.{newline, double_quote, backslash, letter_n}
use Rattle.sg_text.specs.Strings.{unescaped, unescaped_after}
use Rattle.sg_saved_form.specs.Files.{Raw, Raws, Branch, Whole, Quote, Flag, left_parenthesis, right_parenthesis, escaped, spelled_all}
use Rattle.sg_saved_form.specs.Notes.{count_of}
use Rattle.sg_saved_form.specs.declared.notes.Note.{Note}
use Rattle.sg_saved_form.specs.declared.notes.Noted.{Noted}
use Rattle.sg_saved_form.specs.declared.notes.Noted.TheVariants as noted
use Rattle.sg_names.specs.Names as names
use Rattle.sg_saved.specs.Misfits.{op_named}
use Rattle.sg_saved.specs.Heads.{IsNoteOf, head_of}
use Rattle.sg_saved.specs.declared.heads.Head.TheVariants.{Node, Leaf}
use Rattle.sg_saved.proofs.Pieces.{note_at, note-is, name-stands, drop-one}

-- the operator of a name, counted from a place on
named-from : (name : Bytes) (ops : List Operator) (k : ℕ) → position_from (λ (o : Operator). bytes_eq name o.name) k ops ≡ option_map (λ i. k + i) (op_named ops name)
named-from name [] k = refl
named-from name (o ∷ ops) k = by (bytes_eq name o.name) (op_named ops name) (named-from name ops (k + 1))
  where
    by : (t : Bool) (r : Option ℕ) → position_from (λ (o : Operator). bytes_eq name o.name) (k + 1) ops ≡ option_map (λ i. k + 1 + i) r
        → cond t (Some k) (position_from (λ (o : Operator). bytes_eq name o.name) (k + 1) ops) ≡ option_map (λ i. k + i) (cond t (Some 0) (option_map suc r))
    by true r rest = let e : k ≡ k + 0 = omega arith in ap Some e
    by false None rest = rest
    by false (Some i) rest = let e : k + 1 + i ≡ k + suc i = omega arith in rest ∙ ap Some e

pub named-is : (name : Bytes) (ops : List Operator) → names.op_named ops name ≡ op_named ops name
named-is name ops = position_from-zero (λ (o : Operator). bytes_eq name o.name) ops ∙ named-from name ops 0 ∙ same (op_named ops name)
  where
    same : (o : Option ℕ) → option_map (λ i. 0 + i) o ≡ o
    same None = refl
    same (Some i) = ap Some (omega arith)

-- what is escaped is got back
escaped-back : (s : Bytes) → unescaped_after false (escaped s) ≡ s
escaped-back [] = refl
escaped-back (b ∷ bs) = by (b == double_quote) (b == backslash) (b == newline) refl refl refl (escaped-back bs)
  where
    by : (q t n : Bool) → (b == double_quote) ≡ q → (b == backslash) ≡ t → (b == newline) ≡ n → unescaped_after false (escaped bs) ≡ bs
        → unescaped_after false (cond q (backslash ∷ double_quote ∷ []) (cond t (backslash ∷ backslash ∷ []) (cond n (backslash ∷ letter_n ∷ []) (b ∷ []))) ++ escaped bs) ≡ b ∷ bs
    by true t n quote slash line rest = (λ i. sym (eqb-true b double_quote quote) i ∷ rest i)
    by false true n quote slash line rest = (λ i. sym (eqb-true b backslash slash) i ∷ rest i)
    by false false true quote slash line rest = (λ i. sym (eqb-true b newline line) i ∷ rest i)
    by false false false quote slash line rest = ap (λ t. cond t (unescaped_after t (escaped bs)) (b ∷ unescaped_after t (escaped bs))) slash ∙ ap (λ s. b ∷ s) rest

-- a part of a text
part-is : (bytes a b : Bytes) (from to : ℕ) → drop from bytes ≡ a ++ b → to ≡ from + length a → slice_range bytes from to ≡ a
part-is bytes a b from to is end = ap (take (to - from)) is ∙ take_at a b (to - from) (omega arith)

part-within : (bytes a b : Bytes) (from to : ℕ) → drop from bytes ≡ a ++ b → to ≡ from + length a → 0 < length b → to ≤ length bytes
part-within bytes a b from to is end some =
    let len : length bytes - from ≡ length a + length b = sym (length-drop from bytes) ∙ ap length is ∙ length-append a b in
    omega arith

-- a note of an operator is that of a node
pub record IsNode (bytes : Bytes) (note : Note) (end : ℕ) (r : Raw) : Type 0 where
  pub name : Bytes
  pub kids : Raws
  pub is : r ≡ Branch name kids
  pub low : note.from ≤ end
  pub within : end ≤ length bytes
  pub named : slice_range bytes note.from end ≡ name
  pub count : note.kids ≡ count_of kids

pub record IsQuote (bytes : Bytes) (note : Note) (last : ℕ) (r : Raw) : Type 0 where
  pub text : Bytes
  pub is : r ≡ Quote text
  pub low : note.from + 1 ≤ last
  pub within : last ≤ length bytes
  pub inner : unescaped (slice_range bytes (note.from + 1) last) ≡ text

-- what the note says that its subterm is
what-is : (bytes : Bytes) (note : Note) (r : Raw) (w : Noted) → note.what ≡ w → IsNoteOf bytes note r → (note_at note.from r).what ≡ w
what-is bytes note r w what n = ap (λ x. x.what) (note-is bytes note r n) ∙ what

pub is-node : (bytes : Bytes) (note : Note) (end : ℕ) (r : Raw) → note.what ≡ noted.Operator end → IsNoteOf bytes note r → IsNode bytes note end r
is-node bytes note end (Branch name rs) what n =
    let place : noted.Operator (note.from + length name) ≡ noted.Operator end = what-is bytes note (Branch name rs) (noted.Operator end) what n in
    let to : end ≡ note.from + length name = cc in
    let rest : Bytes = left_parenthesis ∷ (spelled_all rs ++ right_parenthesis ∷ n.more) in
    let text = name-stands bytes note.from name rs n.more n.text in
    record {
      name = name;
      kids = rs;
      is = refl;
      low = omega arith;
      within = part-within bytes name rest note.from end text to (omega arith);
      named = part-is bytes name rest note.from end text to;
      count = sym (ap (λ x. x.kids) (note-is bytes note (Branch name rs) n));
    }
is-node bytes note end (Whole z) what n = let e : noted.Number z ≡ noted.Operator end = what-is bytes note (Whole z) (noted.Operator end) what n in absurd (cc)
is-node bytes note end (Quote s) what n = let e : noted.Text (note.from + 1 + length (escaped s)) ≡ noted.Operator end = what-is bytes note (Quote s) (noted.Operator end) what n in absurd (cc)
is-node bytes note end (Flag b) what n = let e : noted.Truth b ≡ noted.Operator end = what-is bytes note (Flag b) (noted.Operator end) what n in absurd (cc)

pub is-quote : (bytes : Bytes) (note : Note) (last : ℕ) (r : Raw) → note.what ≡ noted.Text last → IsNoteOf bytes note r → IsQuote bytes note last r
is-quote bytes note last (Quote s) what n =
    let place : noted.Text (note.from + 1 + length (escaped s)) ≡ noted.Text last = what-is bytes note (Quote s) (noted.Text last) what n in
    let to : last ≡ note.from + 1 + length (escaped s) = cc in
    let text : drop (note.from + 1) bytes ≡ escaped s ++ double_quote ∷ n.more =
    drop-one bytes ((escaped s ++ double_quote ∷ []) ++ n.more) double_quote note.from n.text ∙ append_assoc (escaped s) (double_quote ∷ []) n.more in
    record {
      text = s;
      is = refl;
      low = omega arith;
      within = part-within bytes (escaped s) (double_quote ∷ n.more) (note.from + 1) last text to (omega arith);
      inner = ap unescaped (part-is bytes (escaped s) (double_quote ∷ n.more) (note.from + 1) last text to) ∙ escaped-back s;
    }
is-quote bytes note last (Branch name rs) what n = let e : noted.Operator (note.from + length name) ≡ noted.Text last = what-is bytes note (Branch name rs) (noted.Text last) what n in absurd (cc)
is-quote bytes note last (Whole z) what n = let e : noted.Number z ≡ noted.Text last = what-is bytes note (Whole z) (noted.Text last) what n in absurd (cc)
is-quote bytes note last (Flag b) what n = let e : noted.Truth b ≡ noted.Text last = what-is bytes note (Flag b) (noted.Text last) what n in absurd (cc)

pub is-whole : (bytes : Bytes) (note : Note) (z : ℤ) (r : Raw) → note.what ≡ noted.Number z → IsNoteOf bytes note r → r ≡ Whole z
is-whole bytes note z (Whole y) what n = let e : noted.Number y ≡ noted.Number z = what-is bytes note (Whole y) (noted.Number z) what n in cc
is-whole bytes note z (Branch name rs) what n = let e : noted.Operator (note.from + length name) ≡ noted.Number z = what-is bytes note (Branch name rs) (noted.Number z) what n in absurd (cc)
is-whole bytes note z (Quote s) what n = let e : noted.Text (note.from + 1 + length (escaped s)) ≡ noted.Number z = what-is bytes note (Quote s) (noted.Number z) what n in absurd (cc)
is-whole bytes note z (Flag b) what n = let e : noted.Truth b ≡ noted.Number z = what-is bytes note (Flag b) (noted.Number z) what n in absurd (cc)

pub is-flag : (bytes : Bytes) (note : Note) (b : Bool) (r : Raw) → note.what ≡ noted.Truth b → IsNoteOf bytes note r → r ≡ Flag b
is-flag bytes note b (Flag a) what n = let e : noted.Truth a ≡ noted.Truth b = what-is bytes note (Flag a) (noted.Truth b) what n in cc
is-flag bytes note b (Branch name rs) what n = let e : noted.Operator (note.from + length name) ≡ noted.Truth b = what-is bytes note (Branch name rs) (noted.Truth b) what n in absurd (cc)
is-flag bytes note b (Whole z) what n = let e : noted.Number z ≡ noted.Truth b = what-is bytes note (Whole z) (noted.Truth b) what n in absurd (cc)
is-flag bytes note b (Quote s) what n = let e : noted.Text (note.from + 1 + length (escaped s)) ≡ noted.Truth b = what-is bytes note (Quote s) (noted.Truth b) what n in absurd (cc)

-- what the head of a note is
pub node-head : (spec : Spec) (bytes : Bytes) (note : Note) (end : ℕ) (r : Raw) (op : Option ℕ) → note.what ≡ noted.Operator end → IsNoteOf bytes note r
    → op ≡ op_named spec.ops (slice_range bytes note.from end) → Node op note.kids ≡ head_of spec r
node-head spec bytes note end r op what n found =
    let m = is-node bytes note end r what n in
    (λ i. Node ((found ∙ ap (op_named spec.ops) m.named) i) (m.count i)) ∙ ap (head_of spec) (sym m.is)

pub quote-head : (spec : Spec) (bytes : Bytes) (note : Note) (last : ℕ) (r : Raw) (s : Bytes) → note.what ≡ noted.Text last → IsNoteOf bytes note r
    → s ≡ unescaped (slice_range bytes (note.from + 1) last) → Leaf (Chars s) ≡ head_of spec r
quote-head spec bytes note last r s what n same = let m = is-quote bytes note last r what n in ap (λ t. Leaf (Chars t)) (same ∙ m.inner) ∙ ap (head_of spec) (sym m.is)

pub whole-head : (spec : Spec) (bytes : Bytes) (note : Note) (z : ℤ) (r : Raw) → note.what ≡ noted.Number z → IsNoteOf bytes note r → Leaf (Number z) ≡ head_of spec r
whole-head spec bytes note z r what n = ap (head_of spec) (sym (is-whole bytes note z r what n))

pub flag-head : (spec : Spec) (bytes : Bytes) (note : Note) (b : Bool) (r : Raw) → note.what ≡ noted.Truth b → IsNoteOf bytes note r → Leaf (Truth b) ≡ head_of spec r
flag-head spec bytes note b r what n = ap (head_of spec) (sym (is-flag bytes note b r what n))
