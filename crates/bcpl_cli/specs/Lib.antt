-- The exit statuses, which contracts of `bcpl_cli` and `bcpl` cite.
pub mod Statuses
