-- The claim of specs/Claims.antt. Assumes nothing.
use Rattle.gateway_rules.proofs.Receiver.Claims as rules
use Rattle.receiver.specs.Claims.{Saying}

pub saying : Saying
saying = record { answered = (rules.saying).answered; silent = (rules.saying).silent; refused = (rules.saying).refused }
