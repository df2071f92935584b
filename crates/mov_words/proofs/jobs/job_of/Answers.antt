use Rattle.std.proofs.Common.{map}
use Rattle.std.specs.Prelude.{string_bytes}
use Rattle.mov_words.proofs.Readings.{check_reads, drill_reads, margin_reads, show_reads, tally_reads}
use Rattle.mov_words.proofs.jobs.job_of.Goals as goal

pub returns-in-tally-clause-reads : goal.returns-in-tally-clause-reads
returns-in-tally-clause-reads c = tally_reads c.args.command.now (map string_bytes c.args.rest.now) c.tally_job.result c.in-tally.is c.tally_job.ensures.gives

pub returns-in-margin-clause-reads : goal.returns-in-margin-clause-reads
returns-in-margin-clause-reads c = margin_reads c.args.command.now (map string_bytes c.args.rest.now) c.margin_job.result c.in-margin.is c.margin_job.ensures.gives

pub returns-in-check-clause-reads : goal.returns-in-check-clause-reads
returns-in-check-clause-reads c = check_reads c.args.command.now (map string_bytes c.args.rest.now) c.check_job.result c.in-check.is c.check_job.ensures.gives

pub returns-in-show-clause-reads : goal.returns-in-show-clause-reads
returns-in-show-clause-reads c = show_reads c.args.command.now (map string_bytes c.args.rest.now) c.show_job.result c.in-show.is c.show_job.ensures.gives

pub returns-in-drill-clause-reads : goal.returns-in-drill-clause-reads
returns-in-drill-clause-reads c = drill_reads c.args.command.now (map string_bytes c.args.rest.now) c.drill_job.result c.in-drill.is c.drill_job.ensures.gives
