use Rattle.std.proofs.Common.{◌≡◌, Some, None, sym, ap, ◌∙◌, map, string_bytes, refl}
use Rattle.sg_eval.specs.Journal.{counted}
use Rattle.sg_run.specs.declared.words.Job.{Job as Words}
use Rattle.sg_run.specs.JobView.{job_of}
use Rattle.sg_output.specs.declared.status.Status.TheVariants.{Usage}
use Rattle.sg_output.specs.Job.{job}
use Rattle.sg_output.specs.Job.Job.{Show, Check, Run, Load, Report}
use Rattle.sg_output.specs.OutputOf.{job_told}
use Rattle.sg_output.proofs.Blank.{blank_readers}
use Rattle.sg_output.proofs.Endings.{ends_text}
use Rattle.sg_output.proofs.Opened.{told_by, read_job, read_none}
use Rattle.sg_output.proofs.Requests.{played_nothing}
use Rattle.sg_output.proofs.Works.{known_lines, right_by}
use Rattle.sg_run.proofs.running.run_job.Goals as goal

pub returns-in-None : goal.returns-in-None
returns-in-None g c = record {
  known = read_none _ _ _ _ _ blank_readers c.in-None.ensures.job c.requires.none;
  played = λ r right. told_by None r (map string_bytes c.args.words.now) _ _ _ _ _ c.in-None.ensures.job
      (played_nothing (job_told None r) _ _ _ _ _ c.requires.none (ends_text _ _ _ (counted c.args.journal.now) Usage _ _ c.finish.ensures) refl);
}

pub returns-in-Some-Show : goal.returns-in-Some-Show
returns-in-Some-Show g c =
    let is : Some (Show c.in-Some-Show.name.now) ≡ job (map string_bytes c.args.words.now) = sym (ap (λ (j : Words). Some (job_of j)) c.in-Some-Show.field-0-is) ∙ c.in-Some-Show.ensures.job in
    record {
      known = read_job _ (Show c.in-Some-Show.name.now) _ _ _ _ _ tt (sym is) refl c.show.ensures.known;
      played = λ r right. told_by (Some (Show c.in-Some-Show.name.now)) r (map string_bytes c.args.words.now) _ _ _ _ _ is (c.show.ensures.played r (right_by _ _ _ r is right));
    }

pub returns-in-Some-Check : goal.returns-in-Some-Check
returns-in-Some-Check g c =
    let is : Some (Check c.in-Some-Check.name.now) ≡ job (map string_bytes c.args.words.now) = sym (ap (λ (j : Words). Some (job_of j)) c.in-Some-Check.field-0-is) ∙ c.in-Some-Check.ensures.job in
    record {
      known = read_job _ (Check c.in-Some-Check.name.now) _ _ _ _ _ tt (sym is) refl (c.check.ensures.known (counted c.args.journal.now));
      played = λ r right. told_by (Some (Check c.in-Some-Check.name.now)) r (map string_bytes c.args.words.now) _ _ _ _ _ is (c.check.ensures.played r (right_by _ _ _ r is right) (counted c.args.journal.now));
    }

pub returns-in-Some-Load : goal.returns-in-Some-Load
returns-in-Some-Load g c =
    let is : Some (Load c.in-Some-Load.count) ≡ job (map string_bytes c.args.words.now) = sym (ap (λ (j : Words). Some (job_of j)) c.in-Some-Load.field-0-is) ∙ c.in-Some-Load.ensures.job in
    record {
      known = known_lines _ c.in-Some-Load.count _ _ _ _ _ _ _ is c.requires.none c.work.ensures.known;
      played = λ r right. told_by (Some (Load c.in-Some-Load.count)) r (map string_bytes c.args.words.now) _ _ _ _ _ is
          (played_nothing (job_told (Some (Load c.in-Some-Load.count)) r) _ _ _ _ _ c.requires.none (c.work.ensures.ended r (right_by _ _ _ r is right) _) refl);
    }

pub returns-in-Some-Run : goal.returns-in-Some-Run
returns-in-Some-Run g c =
    let j = c.in-Some-Run in
    let is : Some (Run j.name.now j.script_name.now j.width j.height) ≡ job (map string_bytes c.args.words.now) = sym (ap (λ (j : Words). Some (job_of j)) j.field-0-is) ∙ j.ensures.job in
    record {
      known = read_job _ (Run j.name.now j.script_name.now j.width j.height) _ _ _ _ _ tt (sym is) refl c.run_script.ensures.known;
      played = λ r right. told_by (Some (Run j.name.now j.script_name.now j.width j.height)) r (map string_bytes c.args.words.now) _ _ _ _ _ is (c.run_script.ensures.played r (right_by _ _ _ r is right));
    }

pub returns-in-Some-Report : goal.returns-in-Some-Report
returns-in-Some-Report g c =
    let j = c.in-Some-Report in
    let is : Some (Report j.name.now j.file.now j.word.now) ≡ job (map string_bytes c.args.words.now) = sym (ap (λ (j : Words). Some (job_of j)) j.field-0-is) ∙ j.ensures.job in
    record {
      known = read_job _ (Report j.name.now j.file.now j.word.now) _ _ _ _ _ tt (sym is) refl c.report_on.ensures.known;
      played = λ r right. told_by (Some (Report j.name.now j.file.now j.word.now)) r (map string_bytes c.args.words.now) _ _ _ _ _ is (c.report_on.ensures.played r (right_by _ _ _ r is right));
    }
