use Rattle.std.proofs.Common.{append_assoc}
use Rattle.rk_scenario.proofs.generator.add_body.Goals as goal

pub returns : goal.returns
returns c =
    rw (c.in_ok-push_str.ensures.bytes, c.in_ok-add_send.ensures, c.in_ok-add_work-2.ensures, c.in_ok-add_release.ensures, c.in_ok-add_work.ensures, c.in_ok-add_obtain.ensures, c.in_ok-add_next_job.ensures, c.in_ok-add_create.ensures, c.in_ok-add_body_line.ensures) (simp append_assoc)
