use Rattle.std.proofs.Common.{ℕ, List, subst}
use Rattle.reo_trace_reader.specs.texts.Texts.{IsTraceText}
use Rattle.reo_trace_reader.specs.Given.{trace_given}
use Rattle.reo_trace_reader.specs.Streams.{IsFaultOf}
use Rattle.reo_trace_reader.proofs.Streams.{fault_only}
use Rattle.reo_trace_reader.proofs.trace_text.TraceText.read.Goals as goal

pub returns-in_ok-ports-in-Ok-clause-only : goal.returns-in_ok-ports-in-Ok-clause-only
returns-in_ok-ports-in-Ok-clause-only c answer h =
    c.one_trace_answer.ensures c.args.ports.now.list c.args.text _ answer c.requires
    (subst (λ (text : List ℕ). IsTraceText c.args.ports.now.list text (trace_given c.in-Ok.trace)) c.as_slice.ensures c.in-Ok.ensures.found) h

pub returns-in-Err-clause-only : goal.returns-in-Err-clause-only
returns-in-Err-clause-only c answer h =
    fault_only c.args.ports.now.list c.args.text c.in-Err.fault c.one_trace_answer.ensures c.requires
    (subst (λ (text : List ℕ). IsFaultOf c.args.ports.now.list text c.in-Err.fault) c.as_slice.ensures c.in-Err.ensures.fault) answer h
