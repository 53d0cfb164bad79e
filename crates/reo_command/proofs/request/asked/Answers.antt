use Rattle.std.proofs.Common.{◌∙◌, length, ap}
use Rattle.reo_command.specs.declared.command.Command.{Command}
use Rattle.reo_command.specs.Commands.{roles_of}
use Rattle.reo_command.proofs.WordLemmas.{names_fit}
use Rattle.reo_command.proofs.request.asked.Goals as goal

pub three_names-requires : goal.three_names-requires
three_names-requires c =
    ap length c.names_of-names.ensures ∙ names_fit c.args.words.now c.args.command c.requires ∙ ap (λ (command : Command). length (roles_of command)) c.in-Verify.is

pub three_names-requires-in-VerifyProof : goal.three_names-requires-in-VerifyProof
three_names-requires-in-VerifyProof c =
    ap length c.names_of-names.ensures ∙ names_fit c.args.words.now c.args.command c.requires ∙ ap (λ (command : Command). length (roles_of command)) c.in-VerifyProof.is
