pub mod StandingLaws
pub mod RecoveryLaws
