use Rattle.adapter_tables.proofs.ProbeLaws.{probe_fits, sense_fetched, inquiry_keeps, report_keeps}
use Rattle.adapter_tables.proofs.probes.probes_are_served.Goals as goal

pub returns-clause-fits : goal.returns-clause-fits
returns-clause-fits c = probe_fits

pub returns-clause-sense : goal.returns-clause-sense
returns-clause-sense c = sense_fetched

pub returns-clause-inquiry : goal.returns-clause-inquiry
returns-clause-inquiry c = inquiry_keeps

pub returns-clause-report_luns : goal.returns-clause-report_luns
returns-clause-report_luns c = report_keeps
