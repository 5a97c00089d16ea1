pub mod HalfRuns
pub mod Finishing
pub mod HalfDecodes
