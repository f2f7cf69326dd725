pub mod CallEnd
pub mod Devices
pub mod Drill
pub mod Program
pub mod RefusalLaws
