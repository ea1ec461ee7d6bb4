-- Laws of decisions, hops and traffic; the claims of specs/Router/Claims.antt are read off in `Claims`, each under its name, from the
-- files before it.
pub mod DecisionLaws
pub mod CallLaws
pub mod HopLaws
pub mod RoutingLaws
pub mod LedgerLaws
pub mod OnlyLaws
pub mod OneRouter
pub mod TrafficLaws
pub mod UnreadLaws
pub mod Claims
