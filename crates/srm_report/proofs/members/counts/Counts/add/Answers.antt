use Rattle.srm_report.proofs.CountLemmas.{counts_more}
use Rattle.srm_report.proofs.members.counts.Counts.add.Goals as goal

pub returns-clause-counts : goal.returns-clause-counts
returns-clause-counts c rs h =
    counts_more rs c.args.row.now c.args.self.now c.first_time-self.result c.first_time-self-2.result c.one_if_sent.result c.one_if.result
    c.len.result c.one_if-2.result
    c.one_if_sent-2.result c.one_if_sent-3.result c.one_if_sent-4.result h (cc) (cc) (cc) (cc) (cc) (cc) (cc) (cc) (cc)
