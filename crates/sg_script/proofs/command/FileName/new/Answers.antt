use Rattle.std.proofs.Common.{◌≡◌, true}
use Rattle.sg_script.specs.Forms.{is_file_name}
use Rattle.sg_script.proofs.Names.{file_name_utf8}
use Rattle.sg_script.proofs.command.FileName.new.Goals as goal

pub returns-in-Err : goal.returns-in-Err
returns-in-Err c =
    let named : is_file_name c.args.bytes.now ≡ true = cc in
    absurd (c.in-Err.ensures.cases.0 (file_name_utf8 c.args.bytes.now named))
