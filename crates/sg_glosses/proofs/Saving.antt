-- What is saved, and loaded again.
use Rattle.std.specs.Prelude.{◌≡◌, refl, ℕ, suc, ◌+◌, max, ◌<◌, ◌≤◌, Bool, true, false, nat_lt, if◌then◌else◌, length, List, [], ◌∷◌, slice_get, Option, None, Some, option_map, unwrap_or, is_some, MatchOption, Ok, Err}
use Rattle.std.proofs.Common.{ap, ◌∙◌, subst, arith}
use Rattle.sg_kinds.specs.Values.{Bytes, Values, Truth, Number, Chars, Tree, Fault}
use Rattle.sg_kinds.specs.Fits.{AllFit, Fits, MayHold}
use Rattle.sg_kinds.specs.Plain.{plain, plain_all}
use Rattle.sg_kinds.specs.Sound.{IsSmall}
use Rattle.sg_kinds.specs.Terms.{Term, Terms, Leaf, Node, NoTerm, AndTerm, nodes_of, nodes_of_all, height_of, height_of_all}
use Rattle.sg_kinds.specs.ValueOf.{value_of, values_of}
use Rattle.sg_kinds.specs.declared.marks.Shape.{Shape}
use Rattle.sg_kinds.specs.declared.marks.Shape.TheVariants.{Truths, Numbers, Texts, Lexemes, Ordinary, Optional, Listed, OptionalListed}
use Rattle.sg_kinds.specs.declared.spec.Operator.{Operator}
use Rattle.sg_kinds.specs.declared.spec.Phylum.{Phylum}
use Rattle.sg_kinds.specs.declared.spec.Spec.{Spec}
use Rattle.sg_kinds.proofs.Elementary.{lt_is, slice_get-All}
use Rattle.sg_kinds.proofs.PlainFits.{plain_fits}
use Rattle.sg_load.specs.Verdict.{Accepted, IsVerdict}
use Rattle.sg_load.specs.FreeNames.{IsFreeName}
use Rattle.sg_load.proofs.NamesRead.{accepted_named, accepted_distinct}
use Rattle.sg_replies.specs.Requests.{Request, Keep}
use Rattle.sg_replies.specs.declared.reply.Reply.TheVariants as reply
use Rattle.sg_saved.specs.Read.{Holds}
use Rattle.sg_saved.specs.Spelling.{saved, AreNamed}
use Rattle.sg_saved.proofs.Opening.{one-opening, written-read}
use Rattle.sg_script.specs.declared.command.Command.TheVariants as command
use Rattle.sg_script.specs.declared.message.Message.{Message}
use Rattle.sg_script.specs.declared.message.Message.TheVariants as message
use Rattle.sg_states.specs.States.{State}
use Rattle.sg_editor.specs.Ask.{AreReaders, Readers, Step, ask, barred, fetched, keeps, loads, longest_file, opened, opens, read_in, resting, says}
use Rattle.sg_editor.specs.Session.{Session, current_of, with_load}
use Rattle.sg_editor.specs.Steps.{Comes, requests_of}

-- no leaf holds a tree
no_tree : (spec : Spec) (shape : Shape) (op : ℕ) (vs : Values) → MayHold spec shape (Tree op vs) → ⊥
no_tree spec Truths op vs h = h
no_tree spec Numbers op vs h = h
no_tree spec Texts op vs h = h
no_tree spec (Lexemes l) op vs h = h
no_tree spec Ordinary op vs h = h
no_tree spec Optional op vs h = h
no_tree spec Listed op vs h = h
no_tree spec OptionalListed op vs h = h

no_tree_at : (spec : Spec) (o : Option Phylum) (op : ℕ) (vs : Values) → MatchOption o ⊥ (λ x. MayHold spec x.shape (Tree op vs)) → ⊥
no_tree_at spec None op vs h = h
no_tree_at spec (Some x) op vs h = no_tree spec x.shape op vs h

-- a plain term has as many nodes as one with its value, and is as deep
abbrev IsAsLarge : Term → Term → Type 0
IsAsLarge s t = (nodes_of s ≡ nodes_of t) × (height_of s ≡ height_of t)

abbrev AreAsLarge : Terms → Terms → Type 0
AreAsLarge ss ts = (nodes_of_all ss ≡ nodes_of_all ts) × (height_of_all ss ≡ height_of_all ts)

mutual
  plain_large : (spec : Spec) (t : Term) (p : ℕ) → Fits spec t p → IsAsLarge (plain spec (value_of t) p) t
  plain_large spec (Leaf q (Truth b)) p h = (refl, refl)
  plain_large spec (Leaf q (Number z)) p h = (refl, refl)
  plain_large spec (Leaf q (Chars s)) p h = (refl, refl)
  plain_large spec (Leaf q (Tree op vs)) p h = absurd (no_tree_at spec (slice_get spec.phyla p) op vs h.1)
  plain_large spec (Leaf q (Fault kind)) p h = (refl, refl)
  plain_large spec (Node op scheme elided ts) p h =
      let all = by (slice_get spec.ops op) h (λ ps f. plain_all_large spec ts ps f) in
      (ap suc all.0, ap suc all.1)
    where
      by : (o : Option Operator) → MatchOption o ⊥ (λ x. (x.phylum ≡ p) × (scheme < 16) × AllFit spec ts x.args) → ((ps : List ℕ) → AllFit spec ts ps → AreAsLarge (plain_all spec (values_of ts) ps) ts)
          → AreAsLarge (plain_all spec (values_of ts) (unwrap_or (option_map (λ (x : Operator). x.args) o) [])) ts
      by None g all = absurd g
      by (Some x) g all = all x.args g.2

  plain_all_large : (spec : Spec) (ts : Terms) (ps : List ℕ) → AllFit spec ts ps → AreAsLarge (plain_all spec (values_of ts) ps) ts
  plain_all_large spec NoTerm ps h = (refl, refl)
  plain_all_large spec (AndTerm t ts) [] h = absurd h
  plain_all_large spec (AndTerm t ts) (p ∷ ps) h =
      let first = plain_large spec t p h.0 in
      let rest = plain_all_large spec ts ps h.1 in
      ((λ i. first.0 i + rest.0 i), (λ i. max (first.1 i) (rest.1 i)))

module _ (spec : Spec) (height : ℕ) (r : Readers) where
  -- what is to be kept is what is saved of the current value
  asked_to_keep : (s : Session) (file : Bytes) (b : Bytes × State) (busy : Bool) (q : Request)
      → requests_of (keeps file s (if busy then Err message.InText else Ok (saved spec (value_of b.1.term)))) ≡ q ∷ [] → q ≡ Keep file (saved spec (value_of b.1.term))
  asked_to_keep s file b true q asked = absurd (let e = asked in cc)
  asked_to_keep s file b false q asked = let e = asked in cc

  pub keeps_saved : (s : Session) (file : Bytes) (q : Request) (b : Bytes × State) → requests_of (ask spec height r s (command.Save file)) ≡ q ∷ [] → current_of s ≡ Some b
      → q ≡ Keep file (saved spec (value_of b.1.term))
  unfolding ask
  keeps_saved s file q b asked here =
      asked_to_keep s file b (is_some b.1.capture) q
      (subst (λ o. requests_of (keeps file s (resting o (λ (st : State). Ok (saved spec (value_of st.term))))) ≡ q ∷ []) here asked)

-- the operators have names that may stand in a file
are_named : (bytes : Bytes) (spec : Spec) → IsVerdict bytes (Accepted spec) → AreNamed spec
are_named bytes spec accepted op o here =
    let free : IsFreeName o.name = slice_get-All (λ (x : Operator). IsFreeName x.name) spec.ops op o (accepted_named bytes spec accepted) here in
    record { named = free.named; short = free.short; free = free.free }

module _ (bytes : Bytes) (spec : Spec) (accepted : IsVerdict bytes (Accepted spec)) (height : ℕ) (r : Readers) (right : AreReaders spec r) (t : Term) (fits : Fits spec t spec.root) (small : IsSmall t) where
  abbrev file : Bytes
  file = saved spec (value_of t)

  -- it is read as the value
  read_again : r.file file ≡ Holds (value_of t)
  read_again =
      let large = plain_large spec t spec.root fits in
      one-opening spec (accepted_distinct bytes spec accepted) file (r.file file) (Holds (value_of t)) (right.1 file)
      (written-read spec (are_named bytes spec accepted) (value_of t) (plain_fits spec t spec.root fits) (let n = large.0 in omega (arith, n, small.0)) (let n = large.1 in omega (arith, n, small.1)))

  read_back : (name : Bytes) (s : Session) → length file ≤ longest_file → read_in spec height r name s file ≡ opens spec name (plain spec (value_of t) spec.root) s
  read_back name s short = by (nat_lt longest_file (length file)) refl
    where
      by : (long : Bool) → nat_lt longest_file (length file) ≡ long → (if long then says s message.LongFile else opened spec name s (r.file file)) ≡ opens spec name (plain spec (value_of t) spec.root) s
      by true long = let more = lt_is longest_file (length file) long in absurd (omega (arith, more, short))
      by false short = ap (opened spec name s) read_again

  loaded_back : (name source : Bytes) (s : Session) (step : Step) (o : Option Message) → o ≡ None → length file ≤ longest_file → Comes (loads spec height r name source s o) (reply.Fetched file ∷ []) step
      → step ≡ opens spec name (plain spec (value_of t) spec.root) (with_load s)
  loaded_back name source s step (Some m) free short comes = absurd (let e = free in cc)
  loaded_back name source s step None free short comes =
      let same : comes.0 ≡ reply.Fetched file = (let e = comes.1 in cc) in
      comes.3 ∙ ap (fetched spec height r name (with_load s)) same ∙ read_back name (with_load s) short

  pub loads_again : length file ≤ longest_file → (s : Session) (name source : Bytes) (step : Step) → barred name s ≡ None
      → Comes (ask spec height r s (command.Load name source)) (reply.Fetched file ∷ []) step → step ≡ opens spec name (plain spec (value_of t) spec.root) (with_load s)
  unfolding ask
  loads_again short s name source step free comes = loaded_back name source s step (barred name s) free short comes

-- a save whose bytes a load fetches
module _ (bytes : Bytes) (spec : Spec) (accepted : IsVerdict bytes (Accepted spec)) (height : ℕ) (r : Readers) (right : AreReaders spec r) where
  pub saved_again : (s : Session) (file kept : Bytes) (b : Bytes × State) → current_of s ≡ Some b → Fits spec b.1.term spec.root → IsSmall b.1.term
      → requests_of (ask spec height r s (command.Save file)) ≡ Keep file kept ∷ [] → length kept ≤ longest_file
      → (later : Session) (name source : Bytes) (step : Step) → barred name later ≡ None → Comes (ask spec height r later (command.Load name source)) (reply.Fetched kept ∷ []) step
      → step ≡ opens spec name (plain spec (value_of b.1.term) spec.root) (with_load later)
  saved_again s file kept b here fits small asked short later name source step free comes =
      let request = keeps_saved spec height r s file (Keep file kept) b asked here in
      let same : kept ≡ saved spec (value_of b.1.term) = (let e = request in cc) in
      loads_again bytes spec accepted height r right b.1.term fits small (subst (λ (x : Bytes). length x ≤ longest_file) same short) later name source step free
      (subst (λ (x : Bytes). Comes (ask spec height r later (command.Load name source)) (reply.Fetched x ∷ []) step) same comes)
