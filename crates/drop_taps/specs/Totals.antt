-- Own: what the tap of totals counted.
use Rattle.drop_taps.specs.declared.tap.Seen.{Seen}
use Rattle.drop_taps.specs.declared.totals_tap.TotalsTap.{TotalsTap}

abbrev pub seen_by : TotalsTap → Seen
seen_by tap = record {
  entries = tap.entries;
  requests = tap.requests;
  reports = tap.reports;
  refusals = tap.refusals;
}
