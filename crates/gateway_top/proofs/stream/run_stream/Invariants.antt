use Rattle.std.proofs.Common.{◌≡◌, ◌-◌, ◌≤◌, length, false}
use Rattle.frame_grammar.specs.Held.{room}
use Rattle.gateway_top.specs.Task.{kind_of}
use Rattle.whole_input.specs.declared.reading.TheConstants.{MAX_INPUT, MAX_READ}
use Rattle.gateway_top.proofs.Midway.{Midway}
use Rattle.gateway_top.proofs.stream.run_stream.Given as goal

abbrev pub invariant-loop-pass : goal.invariant-loop-pass
invariant-loop-pass g l = record {
  midway : Midway l.fn.task (g.I.Source.left l.fn.input) (g.I.Source.left l.input)
      (g.O.Sink.bytes l.fn.out) (g.O.Sink.bytes l.out) l.pass.framer l.pass.refused l.taken;
  task : l.pass.task ≡ l.fn.task;
  kind : l.pass.framer.kind ≡ kind_of l.fn.task;
  room : 8000 ≤ room l.pass.framer;
  limit : l.taken ≤ MAX_INPUT;
  buf : length l.buf ≡ MAX_READ;
  going : g.I.Source.ended l.input ≡ false;
  input_faults : g.I.Source.faults l.input ≡ g.I.Source.faults l.fn.input;
  output_faults : g.O.Sink.faults l.out ≡ g.O.Sink.faults l.fn.out;
}

abbrev pub decreases-loop-pass : goal.decreases-loop-pass
decreases-loop-pass g l = MAX_INPUT - l.taken
