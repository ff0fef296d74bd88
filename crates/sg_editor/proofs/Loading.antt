-- Files that are loaded.
use Rattle.std.specs.Prelude.{◌≡◌, refl, ℕ, suc, Bool, true, false, nat_lt, List, length, if◌then◌else◌}
use Rattle.std.proofs.Common.{ap}
use Rattle.sg_kinds.specs.Values.{Bytes}
use Rattle.sg_kinds.specs.declared.spec.Spec.{Spec}
use Rattle.sg_eval.specs.declared.journal.Instance.{Instance}
use Rattle.sg_replies.specs.declared.reply.Reply.{Reply}
use Rattle.sg_replies.specs.declared.reply.Reply.TheVariants as reply
use Rattle.sg_saved.specs.Read.{Opened, FormAt, PhylumAt, TooLarge, Holds}
use Rattle.sg_script.specs.declared.message.Message.{Message}
use Rattle.sg_script.specs.declared.message.Message.TheVariants as message
use Rattle.sg_editor.specs.Ask.{Readers, Step, fetched, opened, read_in, longest_file, says}
use Rattle.sg_editor.specs.Editing.{Kept}
use Rattle.sg_editor.specs.Session.{Session, with_load}
use Rattle.sg_editor.specs.Steps.{AreSome, Took}

-- a load that is counted
abbrev pub counted_step : Step → Step
counted_step step = record step { session = with_load step.session }

module _ (spec : Spec) (name : Bytes) (s : Session) where
  opened_counted : (x : Opened) → opened spec name (with_load s) x ≡ counted_step (opened spec name s x)
  opened_counted (FormAt k) = refl
  opened_counted (PhylumAt k) = refl
  opened_counted (TooLarge nodes depth) = refl
  opened_counted (Holds v) = refl

  module _ (height : ℕ) (r : Readers) where
    read_counted : (bytes : Bytes) → read_in spec height r name (with_load s) bytes ≡ counted_step (read_in spec height r name s bytes)
    read_counted bytes = by (nat_lt longest_file (length bytes))
      where
        by : (long : Bool) → (if long then says (with_load s) message.LongFile else opened spec name (with_load s) (r.file bytes))
            ≡ counted_step (if long then says s message.LongFile else opened spec name s (r.file bytes))
        by true = refl
        by false = opened_counted (r.file bytes)

    pub fetched_counted : (x : Reply) → fetched spec height r name (with_load s) x ≡ counted_step (fetched spec height r name s x)
    fetched_counted (reply.Fetched bytes) = read_counted bytes
    fetched_counted reply.FetchFailed = refl
    fetched_counted reply.Kept = refl
    fetched_counted reply.KeepFailed = refl

pub took_counted : (step : Step) (k : Kept) (m : Message) (now : List Instance) → Took step k m now → Took (counted_step step) (record k { loads = suc k.loads }) m now
took_counted step k m now t = record {
  session = ap with_load t.session;
  message = t.message;
  counted = t.counted;
  noted = t.noted;
}

pub some_counted : (spec : Spec) (step : Step) (now : List Instance) → AreSome spec step now → AreSome spec (counted_step step) now
some_counted spec step now a = record { few = a.few; noted = a.noted }
