-- The law of the definitions in specs/.
pub mod Numbers
