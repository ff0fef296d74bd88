-- Commands that ask nothing, one after another.
use Rattle.std.specs.Prelude.{◌≡◌, refl, ◌≤◌, ◌<◌, ℕ, zero, suc, ◌+◌, IsTrue, List, [], ◌∷◌, length, drop, get_or}
use Rattle.std.proofs.Common.{sym, ap, ◌∙◌, subst, arith, add-one, drop-cons}
use Rattle.sg_kinds.specs.declared.spec.Spec.{Spec}
use Rattle.sg_eval.specs.Journal.{now_of, total_of, counted}
use Rattle.sg_eval.specs.declared.journal.Instance.{Instance}
use Rattle.sg_eval.specs.declared.journal.Journal.{Journal}
use Rattle.sg_outside.specs.Shelf.{ShelfState}
use Rattle.sg_replies.specs.declared.reply.Reply.{Reply}
use Rattle.sg_script.specs.declared.command.Command.{Command}
use Rattle.sg_script.specs.declared.message.Message.{Message}
use Rattle.sg_editor.specs.Session.{Session}
use Rattle.sg_editor.specs.Ask.{Readers, Step, Ask, Tells, ask, asks_nothing}
use Rattle.sg_editor.specs.Editing.{Editing, Setting, spec_in, height_in, session_of}
use Rattle.sg_editor.specs.Steps.{Stepped, Interrupted}
use Rattle.sg_workload.specs.Loads.{step_by, step_of, played}
use Rattle.sg_workload.specs.Performed.{ArePerformed, AreCut, AreLeft}

-- what a command that asks nothing did
pub record Did (s : Session) (asked : Ask) (e : Editing) (now : List Instance) : Type 0 where
  pub session : session_of e ≡ (step_by s asked).session
  pub counted : length now ≡ length (step_by s asked).set

did_told : (s : Session) (told : Step) (e : Editing) (m : Message) (now : List Instance) (before after : List Reply) (old new : ShelfState)
    → Stepped (Tells told) e m now before after old new → Did s (Tells told) e now
did_told s told e m now before after old new h = record {
  session = h.session ∙ ap (λ (st : Step). st.session) h.comes.1;
  counted = h.counted ∙ ap (λ (st : Step). length st.set) h.comes.1;
}

did : (s : Session) (asked : Ask) (told : Step) → asked ≡ Tells told → (e : Editing) (m : Message) (now : List Instance) (before after : List Reply) (old new : ShelfState)
    → Stepped asked e m now before after old new → Did s asked e now
did s asked told is e m now before after old new h =
    subst (λ z. Did s z e now) (sym is) (did_told s told e m now before after old new (subst (λ z. Stepped z e m now before after old new) is h))

did_part : (s : Session) (asked : Ask) (told : Step) → asked ≡ Tells told → (spec : Spec) (now : List Instance) (before after : List Reply) (old new : ShelfState)
    → Interrupted spec asked now before after old new → length now ≤ length (step_by s asked).set
did_part s asked told is spec now before after old new h =
    let few : length now ≤ length told.set = (subst (λ z. Interrupted spec z now before after old new) is h).cut.1.few in
    let same = ap (λ z. length (step_by s z).set) is in
    omega (arith, few, same)

module _ (spec : Spec) (height : ℕ) (r : Readers) (first : Session) (all : List Command) (before : ℕ) where
  pub at_first : AreLeft spec height r first all before first all before
  at_first = record { session = refl; evaluated = refl }

  -- one command more
  pub after_one : (s s' : Session) (c : Command) (left : List Command) (now now' : ℕ) → s' ≡ (step_of spec height r s c).session → now' ≡ now + length (step_of spec height r s c).set
      → AreLeft spec height r first all before s (c ∷ left) now → AreLeft spec height r first all before s' left now'
  after_one s s' c left now now' session more h =
      let there : AreLeft spec height r first all before (step_of spec height r s c).session left now' = record {
        session = h.session;
        evaluated = let e = h.evaluated in omega (arith, e, more);
      } in
      subst (λ z. AreLeft spec height r first all before z left now') (sym session) there

  -- none is left
  pub at_last : (s : Session) (now : ℕ) → AreLeft spec height r first all before s [] now → ArePerformed (played spec height r first all) s before now
  at_last s now h = record { session = h.session; evaluated = let e = h.evaluated in omega (arith, e) }

  -- or memory was wanting at one
  pub at_cut : (s : Session) (c : Command) (left : List Command) (now now' : ℕ) → before ≤ now → now ≤ now' → now' ≤ now + length (step_of spec height r s c).set
      → AreLeft spec height r first all before s (c ∷ left) now → AreCut (played spec height r first all) before now'
  at_cut s c left now now' l m n h = record { least = omega (arith, l, m); most = let e = h.evaluated in omega (arith, e, n) }

-- the same of an editor, whose commands ask nothing
abbrev pub AskNothing : Type 0
AskNothing = (spec : Spec) (height : ℕ) (r : Readers) (s : Session) (c : Command) → IsTrue (asks_nothing c) → (step : Step) × (ask spec height r s c ≡ Tells step)

module _ (first : Editing) (all : List Command) (before : ℕ) (r : Readers) (quiet : AskNothing) (e : Editing) (same : e.setting ≡ first.setting) where
  abbrev IsLeft : Session → List Command → ℕ → Type 0
  IsLeft = AreLeft (spec_in first) (height_in first) r (session_of first) all before

  abbrev asked : Command → Ask
  asked c = ask (spec_in e) (height_in e) r (session_of e) c

  same_ask : (c : Command) → asked c ≡ ask (spec_in first) (height_in first) r (session_of e) c
  same_ask c = ap (λ (z : Setting). ask z.contents.spec z.height r (session_of e) c) same

  pub next_left : (e' : Editing) (c : Command) (left rest : List Command) (j j' : Journal) (m : Message) (got got' : List Reply) (old new : ShelfState) → IsTrue (asks_nothing c) → left ≡ c ∷ rest
      → Stepped (asked c) e' m (now_of j') got got' old new → total_of j' ≡ counted j → IsLeft (session_of e) left (counted j) → IsLeft (session_of e') rest (counted j')
  next_left e' c left rest j j' m got got' old new q is h total there =
      let told = quiet (spec_in first) (height_in first) r (session_of e) c q in
      let d = did (session_of e) (ask (spec_in first) (height_in first) r (session_of e) c) told.0 told.1 e' m (now_of j') got got' old new
      (subst (λ z. Stepped z e' m (now_of j') got got' old new) (same_ask c) h) in
      after_one (spec_in first) (height_in first) r (session_of first) all before (session_of e) (session_of e') c rest (counted j) (counted j') d.session
      (let k = d.counted in omega (arith, total, k))
      (subst (λ z. IsLeft (session_of e) z (counted j)) is there)

  pub cut_left : (c : Command) (left rest : List Command) (j j' : Journal) (got got' : List Reply) (old new : ShelfState) → IsTrue (asks_nothing c) → left ≡ c ∷ rest
      → Interrupted (spec_in e) (asked c) (now_of j') got got' old new → total_of j' ≡ counted j → before ≤ counted j → IsLeft (session_of e) left (counted j)
      → AreCut (played (spec_in first) (height_in first) r (session_of first) all) before (counted j')
  cut_left c left rest j j' got got' old new q is h total later there =
      let told = quiet (spec_in first) (height_in first) r (session_of e) c q in
      let few = did_part (session_of e) (ask (spec_in first) (height_in first) r (session_of e) c) told.0 told.1 (spec_in e) (now_of j') got got' old new
      (subst (λ z. Interrupted (spec_in e) z (now_of j') got got' old new) (same_ask c) h) in
      at_cut (spec_in first) (height_in first) r (session_of first) all before (session_of e) c rest (counted j) (counted j') later
      (omega (arith, total)) (omega (arith, total, few))
      (subst (λ z. IsLeft (session_of e) z (counted j)) is there)

  pub none_left : (left : List Command) (now : ℕ) → left ≡ [] → IsLeft (session_of e) left now → ArePerformed (played (spec_in first) (height_in first) r (session_of first) all) (session_of e) before now
  none_left left now is there =
      at_last (spec_in first) (height_in first) r (session_of first) all before (session_of e) now (subst (λ z. IsLeft (session_of e) z now) is there)

-- the next of the commands, and that none is there behind all
pub item_first : (cs : List Command) (i : ℕ) (x : Command) → i < length cs → x ≡ get_or cs i x → drop i cs ≡ x ∷ drop (i + 1) cs
item_first cs i x h e = rw (add-one) (drop-cons cs i x h ∙ ap (λ (c : Command). c ∷ drop (suc i) cs) (sym e))

pub no_item : (cs : List Command) (i : ℕ) → length cs ≤ i → drop i cs ≡ []
no_item [] zero h = refl
no_item [] (suc i) h = refl
no_item (c ∷ cs) zero h = absurd (omega arith)
no_item (c ∷ cs) (suc i) h = no_item cs i (omega arith)
