use Rattle.command_answers.specs.Devices.{Input}
use Rattle.command_answers.specs.declared.reply.TextJob.{TextJob}
use Rattle.command_answers.specs.declared.reply.TextJob.TheVariants as text_job
use Rattle.command_answers.specs.declared.status.Status.{Status}
use Rattle.command_answers.specs.inner.Replies.{ReadsImage, ReadsWork, text_work_of}
use Rattle.command_answers.proofs.reply.read_reply.Goals as goal

-- what is done with a text is a run, so far; with another variant this is `image_reads`, as of a program
runs_alone : (j : TextJob) (image : Input) (status : Status) → ReadsImage image status → ReadsWork (text_work_of j) image status
runs_alone (text_job.Run units call) image status r = r

pub returns-clause-reads : goal.returns-clause-reads
returns-clause-reads g c = runs_alone c.args.job.now _ _ c.tree_reply.ensures.reads
