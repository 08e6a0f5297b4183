use Rattle.std.proofs.Common.{sym, Some, None}
use Rattle.pisa_isa.specs.CodingLaws.{made_codes, made_reason, found_at, codes_decoded, reason_decoded, operation_none}
use Rattle.pisa_isa.proofs.coding.decode.Goals as goal

pub returns-in_default-clause-coding : goal.returns-in_default-clause-coding
returns-in_default-clause-coding c = record {
  opcode = c.opcode_of-opcode.ensures;
  why = operation_none _ (found_at c.args.first _ _ None c.opcode_of-opcode.ensures c.operation.ensures c.in_default.is);
}

pub returns-in-Ok-clause-coding : goal.returns-in-Ok-clause-coding
returns-in-Ok-clause-coding c =
    let found = found_at c.args.first _ _ (Some c.in-Some.op) c.opcode_of-opcode.ensures c.operation.ensures c.in-Some.is in
    let right = c.in-Ok.ensures in
    made_codes c.args.first c.args.second c.in-Some.op _ found c.unchecked-i.ensures right.0 right.1

pub returns-in-Ok-clause-value : goal.returns-in-Ok-clause-value
returns-in-Ok-clause-value c = sym (codes_decoded c.args.first c.args.second _ (returns-in-Ok-clause-coding c))

pub returns-in-Err-clause-coding : goal.returns-in-Err-clause-coding
returns-in-Err-clause-coding c =
    let found = found_at c.args.first _ _ (Some c.in-Some.op) c.opcode_of-opcode.ensures c.operation.ensures c.in-Some.is in
    record {
      opcode = c.opcode_of-opcode.ensures;
      why = made_reason c.args.first c.args.second c.in-Some.op _ c.in-Err.why found c.unchecked-i.ensures c.in-Err.ensures;
    }

pub returns-in-Err-clause-value : goal.returns-in-Err-clause-value
returns-in-Err-clause-value c =
    sym (reason_decoded c.args.first c.args.second c.in-Err.why (returns-in-Err-clause-coding c).why)

pub returns-in-Ok-clause-well_formed : goal.returns-in-Ok-clause-well_formed
returns-in-Ok-clause-well_formed c = (returns-in-Ok-clause-coding c).well_formed
