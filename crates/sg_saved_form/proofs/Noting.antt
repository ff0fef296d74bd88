-- What a reader notes.
use Rattle.std.proofs.Common.{◌≡◌, ℕ, suc, ◌+◌, ◌-◌, ◌<◌, ◌≤◌, max, Bool, true, false, cond, ◌==◌, ℤ, List, [], ◌∷◌, ◌++◌, length, take, set, slice_get, get_or, ltb, ltb-true, refl, sym, ap, subst, ◌∙◌, arith, Some, None, append_assoc, append-nil, length-append}
use Rattle.std.proofs.lemmas.Bool.{eq-eqb, ne_eqb, cond-true, cond-false}
use Rattle.std.proofs.lemmas.Option.{slice_get_read}
use Rattle.sg_kinds.specs.Values.{Bytes}
use Rattle.sg_text.specs.Bytes.{double_quote}
use Rattle.sg_text.specs.Words.{keyword_of}
use Rattle.sg_saved_form.specs.declared.kinds.Kind.{Kind}
use Rattle.sg_saved_form.specs.declared.kinds.Kind.TheVariants as kind
use Rattle.sg_saved_form.specs.declared.notes.Note.{Note}
use Rattle.sg_saved_form.specs.declared.notes.Noted.{Noted}
use Rattle.sg_saved_form.specs.declared.notes.Noted.TheVariants.{Operator, Number, Text as Texted}
use Rattle.sg_saved_form.specs.declared.reader.Mode.{Mode}
use Rattle.sg_saved_form.specs.declared.reader.Mode.TheVariants as mode
use Rattle.sg_saved_form.specs.declared.reader.Reader.{Reader}
use Rattle.sg_saved_form.specs.Files.{Raw, Whole, Quote, raws_of, escaped, spelled, comma, left_parenthesis}
use Rattle.sg_saved_form.specs.Machine.{Open, State, Frame, Before, Name, Minus, Digits, Text, Escape, After, End, closed, with_kid, close_empty, feed_after, flag_of, feed_flag, feed_name, feed_digits, led, outer}
use Rattle.sg_saved_form.specs.Notes.{count_of, notes_of, notes_of_all, height_of, height_of_all}
use Rattle.sg_saved_form.specs.Readers.{open_notes, open_places, Stands, IsBefore, IsIn, IsAfter, Reads, Fed}

-- the element behind a list, and one that is put in its place
get-middle : {A : Type 0} (xs : List A) (y : A) (zs : List A) → slice_get (xs ++ y ∷ zs) (length xs) ≡ Some y
get-middle [] y zs = refl
get-middle (x ∷ xs) y zs = get-middle xs y zs

set-middle : {A : Type 0} (xs : List A) (y z : A) (zs : List A) → set (xs ++ y ∷ zs) (length xs) z ≡ xs ++ z ∷ zs
set-middle [] y z zs = refl
set-middle (x ∷ xs) y z zs = ap (λ l. x ∷ l) (set-middle xs y z zs)

take-front : {A : Type 0} (xs : List A) (y : A) → take (length xs) (xs ++ y ∷ []) ≡ xs
take-front [] y = refl
take-front (x ∷ xs) y = ap (λ l. x ∷ l) (take-front xs y)

-- the last element
last-is : (xs ps : List ℕ) (p : ℕ) → xs ≡ ps ++ p ∷ [] → slice_get xs (length xs - 1) ≡ Some p
last-is xs ps p is =
    let len : length xs - 1 ≡ length ps = omega (arith, ap length is, length-append ps (p ∷ [])) in
    (λ i. slice_get (is i) (len i)) ∙ get-middle ps p []

pub without-last : (xs ps : List ℕ) (p : ℕ) → xs ≡ ps ++ p ∷ [] → take (length xs - 1) xs ≡ ps
without-last xs ps p is =
    let len : length xs - 1 ≡ length ps = omega (arith, ap length is, length-append ps (p ∷ [])) in
    (λ i. take (len i) (is i)) ∙ take-front ps p

-- one more child
pub count-is : (rs : List Raw) → count_of (raws_of rs) ≡ length rs
count-is [] = refl
count-is (r ∷ rs) = ap suc (count-is rs)

count-more : (rs : List Raw) (x : Raw) → count_of (raws_of (rs ++ x ∷ [])) ≡ count_of (raws_of rs) + 1
count-more [] x = refl
count-more (r ∷ rs) x = let rest = count-more rs x in omega arith

heights-more : (rs : List Raw) (x : Raw) → height_of_all (raws_of (rs ++ x ∷ [])) ≡ max (height_of_all (raws_of rs)) (height_of x)
heights-more [] x = omega arith
heights-more (r ∷ rs) x = let rest = heights-more rs x in omega arith

notes-more : (rs : List Raw) (at : ℕ) (x : Raw) → notes_of_all at (raws_of (rs ++ x ∷ [])) ≡ notes_of_all at (raws_of rs) ++ notes_of (at + length (led rs)) x
notes-more [] at x = let none : at ≡ at + 0 = omega arith in append-nil (notes_of at x) ∙ ap (λ n. notes_of n x) none
notes-more (r ∷ rs) at x =
    let place : at + length (spelled r) + 1 + length (led rs) ≡ at + length (spelled r ++ comma ∷ led rs) = omega (arith, length-append (spelled r) (comma ∷ led rs)) in
    ap (λ l. notes_of at r ++ l) (notes-more rs (at + length (spelled r) + 1) x ∙ ap (λ n. notes_of_all (at + length (spelled r) + 1) (raws_of rs) ++ notes_of n x) place)
    ∙ sym (append_assoc (notes_of at r) (notes_of_all (at + length (spelled r) + 1) (raws_of rs)) (notes_of (at + length (spelled r ++ comma ∷ led rs)) x))

length-places : (os : List Open) → length (open_places os) ≡ length os
length-places [] = refl
length-places (o ∷ os) = let rest = length-places os in omega (arith, length-append (open_places os) (length (open_notes os) ∷ []))

-- what is noted up to a term behind the children of an open node
module _ (r : Reader) (m : Mode) (o : Open) (os : List Open) (x : Raw) (after : IsAfter r m (o ∷ os) x) where
  notes-are : r.notes.items ≡ open_notes os ++ (record { from = length (outer os); kids = count_of (raws_of o.kids); what = Operator (length (outer os) + length o.name) } ∷ (notes_of_all (length (outer os) + length o.name + 1) (raws_of o.kids) ++ notes_of (length (outer (o ∷ os))) x))
  notes-are = after.notes ∙ append_assoc (open_notes os) (notes_of (length (outer os)) (closed o)) (notes_of (length (outer (o ∷ os))) x)

  pub kid-place : slice_get r.path.items (length r.path.items - 1) ≡ Some (length (open_notes os))
  kid-place = last-is r.path.items (open_places os) (length (open_notes os)) after.places

  pub kid-note : slice_get r.notes.items (length (open_notes os)) ≡ Some (record { from = length (outer os); kids = count_of (raws_of o.kids); what = Operator (length (outer os) + length o.name) })
  kid-note = ap (λ l. slice_get l (length (open_notes os))) notes-are ∙ get-middle (open_notes os) _ _

  kids-end : length (outer os) + length o.name + 1 + length (led o.kids) ≡ length (outer (o ∷ os))
  kids-end = omega (arith, length-append (outer os) (o.name ++ left_parenthesis ∷ led o.kids), length-append o.name (left_parenthesis ∷ led o.kids))

  more-notes : set r.notes.items (length (open_notes os)) (record { from = length (outer os); kids = count_of (raws_of o.kids) + 1; what = Operator (length (outer os) + length o.name) }) ≡ open_notes (with_kid o x ∷ os)
  more-notes =
      ap (λ l. set l (length (open_notes os)) (record { from = length (outer os); kids = count_of (raws_of o.kids) + 1; what = Operator (length (outer os) + length o.name) })) notes-are ∙ set-middle (open_notes os) _ _ _
      ∙ (λ i. open_notes os ++ (record { from = length (outer os); kids = sym (count-more o.kids x) i; what = Operator (length (outer os) + length o.name) } ∷ sym (notes-more o.kids (length (outer os) + length o.name + 1) x ∙ ap (λ n. notes_of_all (length (outer os) + length o.name + 1) (raws_of o.kids) ++ notes_of n x) kids-end) i))

  pub kid-added : (s : Reader) (place : ℕ) (note : Note) → slice_get r.path.items (length r.path.items - 1) ≡ Some place → slice_get r.notes.items place ≡ Some note
      → s.mode ≡ r.mode → s.path.items ≡ r.path.items → s.depth ≡ r.depth → s.notes.items ≡ set r.notes.items place (record note { kids = note.kids + 1 }) → IsBefore s m (with_kid o x ∷ os)
  kid-added s place note at there mode path depth notes =
      let same_place : Some place ≡ Some (length (open_notes os)) = sym at ∙ kid-place in
      let here : place ≡ length (open_notes os) = cc in
      let same_note : Some note ≡ Some (record { from = length (outer os); kids = count_of (raws_of o.kids); what = Operator (length (outer os) + length o.name) }) = sym there ∙ ap (slice_get r.notes.items) here ∙ kid-note in
      let is : note ≡ record { from = length (outer os); kids = count_of (raws_of o.kids); what = Operator (length (outer os) + length o.name) } = cc in
      record {
        at_mode = mode ∙ after.at_mode;
        places = path ∙ after.places;
        notes = notes ∙ (λ i. set r.notes.items (here i) (record (is i) { kids = (is i).kids + 1 })) ∙ more-notes;
        depth = depth ∙ after.depth ∙ omega (arith, heights-more o.kids x);
      }

-- no node is open
pub none-open : (r : Reader) (m : Mode) (ns : List Note) (deepest : ℕ) (place : ℕ) → Stands r m [] ns deepest → slice_get r.path.items (length r.path.items - 1) ≡ Some place → ⊥
none-open r m ns deepest place stands at = let none : slice_get r.path.items (length r.path.items - 1) ≡ None = (λ i. slice_get (stands.places i) (length (stands.places i) - 1)) in let both : None ≡ Some place = sym none ∙ at in cc

-- a leaf ends
pub leaf-after : (r s : Reader) (m : Mode) (os : List Open) (x : Raw) (note : Note) → IsIn r m os → notes_of r.from x ≡ note ∷ [] → height_of x ≡ 1 → s.mode ≡ mode.After
    → s.path.items ≡ r.path.items → s.notes.items ≡ r.notes.items ++ note ∷ [] → s.depth ≡ max r.depth (length r.path.items + 1) → IsAfter s mode.After os x
leaf-after r s m os x note is one low mode path notes depth = record {
  at_mode = mode;
  places = path ∙ is.stands.places;
  notes = notes ∙ (λ i. is.stands.notes i ++ sym (ap (λ n. notes_of n x) (sym is.from) ∙ one) i);
  depth = depth ∙ omega (arith, is.stands.depth, low, ap length is.stands.places, length-places os);
}

-- a node opens behind its name
pub node-opened : (r s : Reader) (m : Mode) (os : List Open) (name : Bytes) (at : ℕ) → IsIn r m os → at ≡ length (outer os ++ name) → s.mode ≡ mode.Before
    → s.path.items ≡ r.path.items ++ length r.notes.items ∷ [] → s.notes.items ≡ r.notes.items ++ record { from = r.from; kids = 0; what = Operator at } ∷ [] → s.depth ≡ max r.depth (length r.path.items + 1)
    → IsBefore s mode.Before (record { name = name; kids = [] } ∷ os)
node-opened r s m os name at is place mode path notes depth = record {
  at_mode = mode;
  places = path ∙ (λ i. is.stands.places i ++ length (is.stands.notes i) ∷ []);
  notes = notes ∙ (λ i. is.stands.notes i ++ record { from = is.from i; kids = 0; what = Operator ((place ∙ length-append (outer os) name) i) } ∷ []);
  depth = depth ∙ omega (arith, is.stands.depth, ap length is.stands.places, length-places os);
}

-- the innermost open node ends
pub node-closed : (r s : Reader) (m : Mode) (o : Open) (os : List Open) → IsBefore r m (o ∷ os) → s.mode ≡ mode.After → s.path.items ≡ take (length r.path.items - 1) r.path.items → s.notes.items ≡ r.notes.items → s.depth ≡ r.depth
    → IsAfter s mode.After os (closed o)
node-closed r s m o os is mode path notes depth = record {
  at_mode = mode;
  places = path ∙ without-last r.path.items (open_places os) (length (open_notes os)) is.places;
  notes = notes ∙ is.notes;
  depth = depth ∙ is.depth;
}

-- the note of the innermost open node
module _ (r : Reader) (m : Mode) (o : Open) (os : List Open) (is : IsBefore r m (o ∷ os)) where
  pub open-place : slice_get r.path.items (length r.path.items - 1) ≡ Some (length (open_notes os))
  open-place = last-is r.path.items (open_places os) (length (open_notes os)) is.places

  pub open-note : slice_get r.notes.items (length (open_notes os)) ≡ Some (record { from = length (outer os); kids = count_of (raws_of o.kids); what = Operator (length (outer os) + length o.name) })
  open-note = ap (λ l. slice_get l (length (open_notes os))) is.notes ∙ get-middle (open_notes os) _ _

  -- how many children it has
  pub open-kids : (place : ℕ) (note : Note) → slice_get r.path.items (length r.path.items - 1) ≡ Some place → slice_get r.notes.items place ≡ Some note → note.kids ≡ length o.kids
  open-kids place note at there =
      let same_place : Some place ≡ Some (length (open_notes os)) = sym at ∙ open-place in
      let here : place ≡ length (open_notes os) = cc in
      let same_note : Some note ≡ Some (record { from = length (outer os); kids = count_of (raws_of o.kids); what = Operator (length (outer os) + length o.name) }) = sym there ∙ ap (slice_get r.notes.items) here ∙ open-note in
      let is : note ≡ record { from = length (outer os); kids = count_of (raws_of o.kids); what = Operator (length (outer os) + length o.name) } = cc in
      ap (λ n. n.kids) is ∙ count-is o.kids

-- the mode of a state
abbrev state_mode : State → Mode
state_mode (Frame k) = mode.Frame k
state_mode (Before os) = mode.Before
state_mode (Name os bs) = mode.Name
state_mode (Minus os) = mode.Minus
state_mode (Digits os z) = mode.Digits
state_mode (Text os s) = mode.Text
state_mode (Escape os s) = mode.Escape
state_mode (After os x) = mode.After
state_mode (End x) = mode.End

reads-mode : (r : Reader) (σ : State) → Reads r σ → r.mode ≡ state_mode σ
reads-mode r (Frame k) h = h.at_mode
reads-mode r (Before os) h = h.at_mode
reads-mode r (Name os bs) h = h.0.stands.at_mode
reads-mode r (Minus os) h = h.stands.at_mode
reads-mode r (Digits os z) h = h.0.stands.at_mode
reads-mode r (Text os s) h = h.stands.at_mode
reads-mode r (Escape os s) h = h.stands.at_mode
reads-mode r (After os x) h = h.at_mode
reads-mode r (End x) h = h.at_mode

-- the state that a reader of a mode stands for
pub in-frame : (r : Reader) (σ : State) (k : ℕ) → Reads r σ → r.mode ≡ mode.Frame k → (σ ≡ Frame k) × IsBefore r (mode.Frame k) []
in-frame r (Frame n) k h is = let both : mode.Frame n ≡ mode.Frame k = sym h.at_mode ∙ is in let same : n ≡ k = cc in (ap Frame same, subst (λ x. IsBefore r (mode.Frame x) []) same h)
in-frame r σ k h is = absurd (let both : mode.Frame k ≡ state_mode σ = sym is ∙ reads-mode r σ h in cc)

pub in-before : (r : Reader) (σ : State) → Reads r σ → r.mode ≡ mode.Before → (os : List Open) × (σ ≡ Before os) × IsBefore r mode.Before os
in-before r (Before os) h is = (os, refl, h)
in-before r σ h is = absurd (let both : mode.Before ≡ state_mode σ = sym is ∙ reads-mode r σ h in cc)

pub in-digits : (r : Reader) (σ : State) → Reads r σ → r.mode ≡ mode.Digits → (os : List Open) × (z : ℤ) × (σ ≡ Digits os z) × (IsIn r mode.Digits os × (r.value ≡ z))
in-digits r (Digits os z) h is = (os, z, refl, h)
in-digits r σ h is = absurd (let both : mode.Digits ≡ state_mode σ = sym is ∙ reads-mode r σ h in cc)

pub in-after : (r : Reader) (σ : State) → Reads r σ → r.mode ≡ mode.After → (os : List Open) × (x : Raw) × (σ ≡ After os x) × IsAfter r mode.After os x
in-after r (After os x) h is = (os, x, refl, h)
in-after r σ h is = absurd (let both : mode.After ≡ state_mode σ = sym is ∙ reads-mode r σ h in cc)

-- what the reading does at a byte of none of the kinds that are named
pub digits-default : (os : List Open) (z : ℤ) (b : ℕ) (k : Kind) → (k ≡ kind.Zero → ⊥) → (k ≡ kind.Digit → ⊥) → feed_digits os z b k ≡ feed_after os (Whole z) k
digits-default os z b kind.Zero none digit = absurd (none refl)
digits-default os z b kind.Digit none digit = absurd (digit refl)
digits-default os z b k none digit = refl

pub name-default : (os : List Open) (bs : Bytes) (b : ℕ) (k : Kind) → (k ≡ kind.Letter → ⊥) → (k ≡ kind.Zero → ⊥) → (k ≡ kind.Digit → ⊥) → (k ≡ kind.LeftParenthesis → ⊥) → feed_name os bs b k ≡ feed_flag os (flag_of (keyword_of bs)) k
name-default os bs b kind.Letter letter none digit left = absurd (letter refl)
name-default os bs b kind.Zero letter none digit left = absurd (none refl)
name-default os bs b kind.Digit letter none digit left = absurd (digit refl)
name-default os bs b kind.LeftParenthesis letter none digit left = absurd (left refl)
name-default os bs b k letter none digit left = refl

-- a text ends at its last quote
pub text-note : (os : List Open) (s : Bytes) (from at : ℕ) → from ≡ length (outer os) → at ≡ length (outer os ++ double_quote ∷ escaped s)
    → notes_of from (Quote s) ≡ record { from = from; kids = 0; what = Texted at } ∷ []
text-note os s from at begins place =
    let same : from + 1 + length (escaped s) ≡ at = omega (arith, length-append (outer os) (double_quote ∷ escaped s)) in
    ap (λ n. record { from = from; kids = 0; what = Texted n } ∷ []) same

-- a name that is free opens a node
pub fed-open : (t : Bool) (τ : State) (r : Reader) → t ≡ false → Reads r τ → Fed (cond t None (Some τ)) true r
fed-open true τ r e reads = absurd (cc)
fed-open false τ r e reads = (refl, reads)

-- the innermost open node has children
pub not-empty : (r : Reader) (m : Mode) (os : List Open) (place : ℕ) (note : Note) → IsBefore r m os → slice_get r.path.items (length r.path.items - 1) ≡ Some place → slice_get r.notes.items place ≡ Some note → 0 < note.kids
    → close_empty os ≡ None
not-empty r m [] place note is at there some = refl
not-empty r m (o ∷ os) place note is at there some = let kids = open-kids r m o os is place note at there in cond-false (length o.kids == 0) _ _ (ne_eqb (length o.kids) 0 (λ e. omega arith))

-- it has none, and ends
pub empty-closed : (r s : Reader) (m : Mode) (os : List Open) (place : ℕ) (note : Note) → IsBefore r m os → slice_get r.path.items (length r.path.items - 1) ≡ Some place → slice_get r.notes.items place ≡ Some note → note.kids ≤ 0
    → s.mode ≡ mode.After → s.path.items ≡ take (length r.path.items - 1) r.path.items → s.notes.items ≡ r.notes.items → s.depth ≡ r.depth → Fed (close_empty os) true s
empty-closed r s m [] place note is at there none mode path notes depth = absurd (none-open r m [] 0 place is at)
empty-closed r s m (o ∷ os) place note is at there none mode path notes depth =
    let kids = open-kids r m o os is place note at there in
    subst (λ x. Fed x true s) (sym (cond-true (length o.kids == 0) (Some (After os (closed o))) None (eq-eqb (length o.kids) 0 (omega arith)))) (refl, node-closed r s m o os is mode path notes depth)

-- an element that was read
pub read-there : {A : Type 0} (xs ys : List A) (i : ℕ) (x y : A) → xs ≡ ys → true ≡ ltb i (length xs) → x ≡ get_or xs i x → x ≡ y → slice_get ys i ≡ Some y
read-there xs ys i x y same within read is = ap (λ l. slice_get l i) (sym same) ∙ slice_get_read xs (length xs) i x refl (ltb-true i (length xs) (sym within)) read ∙ ap Some is

-- the note of a number
pub number-note : (from : ℕ) (z : ℤ) (what : Noted) → what ≡ Number z → notes_of from (Whole z) ≡ record { from = from; kids = 0; what = what } ∷ []
number-note from z what is = ap (λ w. record { from = from; kids = 0; what = w } ∷ []) (sym is)
